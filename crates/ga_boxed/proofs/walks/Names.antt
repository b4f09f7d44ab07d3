-- The names that the proofs by hand cite, passed on from one place. Declares nothing.
use Rattle.ga_core.proofs.walks.Names as Core
pub use Core.{ !, [], a_type, addr, after, agg, alloc_all, and_then, ap, Args, arith, Array, at, at_mul, at_ret, await}
pub use Core.{bin, Body, Bor, bounded, branches, by, Callee, Calls, capped, cell_at, cells, check, Closed, closes}
pub use Core.{closing, Code, cut_app, dcons, Dict, dnil, done, drop, emp, ent, enter, Env, env, erased, exec, fat}
pub use Core.{fauth, feq, feq_i, feq_l, first, fjoin, fjoin3, fld, flft, flt_l, Fml, Fn, fobor, fobs, follows, fpack}
pub use Core.{free_all, from, fsep, fsplit, fsplit3, fst∗, ftrue, full_share, get, get_in, given, GName, Goal}
pub use Core.{Goes-dropped, Goes-spent_ref, group, guard, Gv, hop, id⊢, Incl, inst_fn, Is, is, Item, join, join_app}
pub use Core.{keep, lands_as, later, Laws, layout, layouts, learn, length, Lft, Lfts, List, lit, live, load, Logic}
pub use Core.{look_at, look_in_at, Loops, mean, meet_⊑_left, mem, Model, move, mut, mut_Tells, mut_vals, MutBor, MutRef}
pub use Core.{MutSlice, named, no, no_more, nothing, of_opd, opens, owned, param, param_laws, part_at, pass_all, peeks}
pub use Core.{pick, plain, Post, qed, RattleType, raw, refl, RefMutOf, returns, rewrite, Running, sem, sep, Seq, seq}
pub use Core.{sets, sets_last, Shares, shows, shr_vals, size, size_word, slice_ty, slice_val, SliceRefMutOf, Slot}
pub use Core.{Soaks, some, split, split3, SProp, stay_dropped, Step, step, stop, sub, subst, suc, sym, tables, through}
pub use Core.{toks, Triple, Tuple, tuple_type, Ty, ty_int, ty_ptr, ty_ref, type_at, uint_Tells, uint_vals, Ura, use0}
pub use Core.{use1, use2, use3, usize, Val, Valss, via, vint, vnil, vptr, vstruct, w64, whole, within, WpFn, yes, zero}
pub use Core.{‵, ℕ, ⋆, ◌$◌, ◌*◌, ◌++◌, ◌+◌, ◌<◌, ◌^◌, ◌∙◌, ◌∵◌, ◌∷◌, ◌≡◌, ◌≤◌, ◌⊑◌, ◌⊛◌}
pub use Rattle.ga_boxed.specs.CellsOwn.{cells_lent, cells_own, deed_owns, empty, fit}
pub use Rattle.ga_core.proofs.walks.CallWalk.{Behind, by_ref, Call, clauses, ended, Had, Linked, linked, meets}
pub use Rattle.ga_core.proofs.walks.CallWalk.{meets_grown, number, Self, told_by, Walk}
pub use Rattle.ga_core.proofs.walks.ClauseFacts.{AllFacts, facts, has_every}
pub use Rattle.ga_core.proofs.walks.ItemLoan.{uncapped, uncapped_fits}
pub use Rattle.std.proofs.Common.{Bool, div-le_self, eqb, eqb→eq, false, le-div_iff_mul-le, leb, leb→le, length-append}
pub use Rattle.std.proofs.Common.{le→leb, lit<, mul-zero, not, T, true, zero-mul, ◌-◌, ◌/◌, ◌↔◌, ◌≢◌}
pub use Rattle.std.proofs.Flags.{T_true}
pub use Rattle.std.proofs.RawLayout.{as_raw, as_written}
pub use Rattle.std.proofs.RcSteps.{first_Good, Good, is_not, word, word-Good}
pub use Rattle.std.proofs.VecSteps.Shapes.{arm_body, head}
pub use Rattle.std.proofs.alloc.Calls.{Al, Answer-typed, Answered, answers, at_gives, at_takes, Gives, Gives-Gives}
pub use Rattle.std.proofs.alloc.Calls.{Gives-goes, gives_key, Goes-blank, Takes, Takes-gives, Takes-goes, takes_key}
pub use Rattle.std.proofs.alloc.Calls.{token}
pub use Rattle.std.proofs.mem.Param.{args, El, el_x, elτ, lawful, one, R}
pub use Rattle.std.proofs.ptr.Rows.{add_times, next, one_below, room_snoc, times_below}
pub use Rattle.std.specs.Mem.{type_size}
pub use Rattle.std.specs.Vec.Ownership.{has_block, owns_if}
pub use Rattle.std.specs.declared.alloc.Allocator.{Ghosts}
pub use base.Fml.{ffalse, froom, Incl-trans}
pub use base.Logic.{guard_i, never}
pub use borrow.Table.OneValue.{part_in, part_out}
pub use denote.Builtin.{bool, SliceRefOf, unit}
pub use denote.Exit.{all_last, all_rest, Entries, Exit, hidden, Kept, leaves, unchanged, under}
pub use denote.Laws.{Tells}
pub use denote.Memory.{shared_of}
pub use denote.Param.Laws.{array_at_laws}
pub use denote.Param.Shared.{copy_shared}
pub use denote.RattleType.{RowLaws}
pub use denote.RawPtr.{block_ptr, in_a_block, null_ptr, Ptr, ptr_val, RawPtr, rawptr_Tells, rawptr_vals}
pub use denote.SharingLaws.{beside_shr_laws, nothing_shr_laws, said_shr_laws}
pub use denote.Slice.{elements_shared, elements_shr_laws}
pub use denote.Struct.Laws.{field_copy}
pub use denote.Struct.Lending.{Lends, Lends-both, Lends-false, Lends-first, Lends-nothing, Lends-said, of_Lends}
pub use denote.Struct.Owning.{fields, shape, to}
pub use denote.Struct.Struct.{exits_of, Shape, Struct, Struct-Makes, Struct-Tells}
pub use denote.Triple.Call.{calls_at, calls_at_last}
pub use denote.Triple.Carry.{grown}
pub use denote.Triple.Walked.{Goes, Goes-ref, Stay, stay_ref}
pub use mir.Syntax.{a_number, aggregate, assign, block, copy, deref, field, imm, local, mul, Mutability, offset, op2}
pub use mir.Syntax.{place, return, rv_opd, size_of, ty_array, ty_unit, unsigned, value_local}
pub use mir.Val.{Fits, has_ty, vbool, vcons, vunit, WT}
pub use prog.Capped.{capped_fits, capped_is, capped_small}
pub use prog.Memory.{align}
pub use prog.Wp.{after_seq, at_return, Wp}
pub use types.ByLocal.{get_tag, give_at, lands_last, take_at}
pub use types.Kit.{any_q, flt_i, Go}
pub use types.Run.{align_word, assigns_last, blocks, init, look, returns_within, size_lit, skips, switches_on, true_lit}
pub use types.Run.{unit_lit}
