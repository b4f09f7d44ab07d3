-- The names that walks cite: of the logic that says what a function owns and lends, and of the steps of a walk.
pub use Rattle.std.proofs.Common.{ap, arith, drop as drop_list, get_or, length, List, refl, set, subst, suc, sym, take}
pub use Rattle.std.proofs.Common.{true≢false, zero, [], ℕ, ◌*◌, ◌++◌, ◌+◌, ◌-◌, ◌<◌, ◌^◌, ◌∙◌, ◌∷◌, ◌≡◌, ◌≤◌, ◌⊎◌}
pub use Rattle.std.proofs.VecSteps.Shapes.{after}
pub use Rattle.std.proofs.alloc.Calls.{Goes-blank}
pub use Rattle.std.proofs.raw_atomic.Walks.{leaves, proved}
pub use base.Fml.{fat, fauth, fbor, fdead, feq, fex, flent, flft, Fml, fobor, fobs, fres, fsep, ftrue, GName, Incl}
pub use base.Fml.{Incl-refl, Lft, Share}
pub use base.Fraction.{full_share}
pub use base.Logic.{apply∗, emp, ent, ex, fst∗, guard, id⊢, sep, snd∗, SProp, via, wand}
pub use base.Stored.{coded_list, Gv}
pub use borrow.Table.Elements.{at, at_mul, cut_app, join_app}
pub use contract.BorrowLft.{meet_⊑_left, meet_⊑_right, ⊑_meet, ⊑_refl, ⊑_trans, ◌⊑◌}
pub use contract.Lifetimes.{AllOutlive, Lfts, Outlives, Shares, toks}
pub use contract.Monad.{fact, fact_i, fact_use, Fun}
pub use contract.Running.{MachineTables, Running, tables}
pub use denote.Array.{Array}
pub use denote.Builtin.{RefMutOf, SliceRefMutOf, usize}
pub use denote.Exit.{no, yes}
pub use denote.Follow.{follows, follows_both, follows_if, follows_then}
unfoldable pub use denote.Follow.{follows_by, such_by}
pub use denote.FollowSlice.{heres_id, slice_of}
pub use denote.Laws.{Are, Is, Ises, shows}
pub use denote.Memory.{cell_at, mem, part_at, pointee}
pub use denote.Param.{arg, bounded, layout, layouts, param}
pub use denote.Param.Laws.{arg_laws, field_told, Laws, of_field, param_laws, row_shared, Told}
pub use denote.Plain.{uint_Makes, uint_Tells, uint_vals}
pub use denote.RattleType.{Denots, flat, owns, RattleType, Valss}
pub use denote.Ref.{at_last, Bor, mut_Tells, mut_vals, MutBor, MutRef, NamedLft, shr_vals, ShrRef}
pub use denote.Signature.{mut_ref_to, plain, Slot, type_at, types_at}
pub use denote.Slice.{heres, mut_slice_Tells, mut_slice_vals, MutSlice, room, Room, slice_ty, slice_val}
pub use denote.Steps.{closes, heard, nothing, only, opens, owned, peeks}
pub use denote.Struct.Struct.{as_fields, within}
pub use denote.Struct.Tuple.{Tuple, tuple_laws, tuple_type}
pub use denote.Through.{lends_inner_slice, renamed}
pub use denote.Triple.Call.{calls_at}
pub use denote.Triple.Clauses.{at_exit, Clauses, closing, Ended, Lasts, lasts}
pub use denote.Triple.Entry.{alive, on_entry, Vals}
pub use denote.Triple.Spec.{Meets, triple_of}
pub use denote.Triple.Statement.{Contract, Triple}
pub use denote.Triple.Table.{framed}
pub use denote.Triple.Walked.{AllGo, fits_of, Goes-dropped, Goes-spent_ref, Goes-spent_slice, has_of, stay_dropped}
pub use denote.Triple.Walked.{Stays, walk_of}
pub use lib.Dec.{eqb, eqb_refl, eqb→eq, lit<, ltb→lt, nltb→le, T, T_not}
pub use mir.MapTy.{inst_fn}
pub use mir.Syntax.{a_type, Args, Body as Code, call, Callee, dcons, Dict, dnil, erased, Fn, impl as impl_of, Lifetime}
pub use mir.Syntax.{mut, named, Opd as Operand, Place, seq, tcons, tnil, Ty, ty_int, ty_ptr, ty_ref, ty_struct, w64, w8}
pub use mir.Val.{of_list, Val, vint, vnil, vptr, vstruct}
pub use prog.Memory.{capped, Memory, size}
pub use prog.Model.{Model}
pub use prog.Routine.{Routine}
pub use prog.Wp.{Calls, Closed, Env, Loops, WpFn}
pub use seplogic.Ra.Ura.{Ura}
pub use sound.WpLaws.{FmC}
pub use types.ByLocal.{alloc_all, env, free_all, get, get_in, is, lands_as, look_at, look_in_at, pass_all, sets}
pub use types.ByLocal.{sets_last, through}
pub use types.Follow.{takes_part}
pub use types.Hole.{Holey}
pub use types.Kit.{assume, at_ret, await, by, check, done, drop, each, feq_i, feq_l, fjoin, fjoin3, flt_l, fpack, fpick}
pub use types.Kit.{frame, fsplit, fsplit3, given, Goal, group, Item, join, keep, lands, later, learn, mean, move, now}
pub use types.Kit.{pick, Post, qed, raw, regoal, rewrite, runs, Seq, show, Soaks, some, split, split3, Step, step}
pub use types.Kit.{suffices, updating, use0, use1, use2, use3, !, ‵, ⋆, ◌$◌, ◌∵◌, ◌⊛◌}
pub use types.Logic.{Logic, sem}
pub use types.Match.{live}
pub use types.Mut.{close_ref, open_ref}
pub use types.Part.{agg, look_in, sub, whole}
pub use types.Run.{addr, and_then, bin, branches, enter, exec, first, fld, from, hop, lit, load, no_more, of_opd, Opds}
pub use types.Run.{returns, size_word, stop}
pub use types.SemTy.{Arr, Body, cells, SemTy}
