-- Walks: proofs by hand, and what they share.
--
-- A walk follows a function's compiled code, statement by statement, and says after each what the function owns. The
-- checker writes this itself for all functions but those
--   * that hand out a `&mut` from behind another reference, or inside a struct or a `Result` (`reborrow`, `view_mut`,
--     `chunks_mut`; `store` of `ga_core`; `split` of `generic_array`);
--   * that read or write through a pointer (`cells` of `ga_boxed`).
-- No other function needs one. `proofs/MODULE/FUNCTION/Proof.antt` is the function's own walk; here is what they share,
-- and nothing that the other proofs cite.
--
-- To write the next:
--   1. See that none is needed: a borrow that goes through one call, or one literal, is followed by the checker.
--   2. `rt check --generated DIR --start FUNCTION` writes the statement to prove, and the code, to a folder outside of
--      the crate. The kit's `docs/WALKS.md` has five whole walks, and the step for each statement.
--   3. State what the function takes, asks and gives: as a `Loan`, if it uses up a `&mut`, which it lends on, and then
--      takes numbers; otherwise as a `Call`. `lends`, or `meets`, makes the contract of a walk.
--   4. Write the walk: `enter`, a step for each statement, `returns`. A `?` prints what is owned there, entry by entry,
--      and the code that is left. A call is a step by `CallStep`; `LengthCall` and `SplitWalk` are two such calls.
--
-- A call and its loans:
--     CallWalk, ClauseFacts      a function's walk but for its own steps; the facts that a clause lists
--     LoanWalk                   a call whose first parameter is used up
--     SliceWalk                  a call that uses up a slice, at clauses of its own
--     CallStep                   a call as a step of its caller's walk.      LengthCall, SplitWalk
-- What is lent:
--     ItemLoan, PartLoan         an item of a slice, a part of it
--     InnerSlice                 a slice behind two references
--     SharedLoan                 a `&mut` lent as a `&`, and returned
--     FollowLemmas, SliceLaws    what a whole ends as; the laws of a slice's type
-- Names                          the names that walks cite, of the logic and its steps
pub mod CallStep
pub mod CallWalk
pub mod ClauseFacts
pub mod FollowLemmas
pub mod InnerSlice
pub mod ItemLoan
pub mod LengthCall
pub mod LoanWalk
pub mod Names
pub mod PartLoan
pub mod SharedLoan
pub mod SliceLaws
pub mod SliceWalk
pub mod SplitWalk
