-- What the walks of `Store`'s calls and of an array's views share. `ga_views` says in its `walks` what a walk is and how
-- the next is written.
--     ArrayLaws      the laws of an array for writing, and of the view of it
--     LentStore      a store that is lent on by a call of `as_mut_slice`
pub mod ArrayLaws
pub mod LentStore
pub use Rattle.ga_views.proofs.walks.CallStep
pub use Rattle.ga_views.proofs.walks.CallWalk
pub use Rattle.ga_views.proofs.walks.ClauseFacts
pub use Rattle.ga_views.proofs.walks.FollowLemmas
pub use Rattle.ga_views.proofs.walks.ItemLoan
pub use Rattle.ga_views.proofs.walks.LengthCall
pub use Rattle.ga_views.proofs.walks.Names
pub use Rattle.ga_views.proofs.walks.SliceLaws
pub use Rattle.ga_views.proofs.walks.SliceWalk
pub use Rattle.ga_views.proofs.walks.SplitWalk
