use Rattle.ga_boxed.proofs.boxed_array.BoxedArray.from_inline.Given as goal
use Rattle.ga_core.proofs.MoveLemmas.{MovedSoFar}
use Rattle.std.proofs.Common.{◌≡◌, ◌+◌, length}

-- the items up to this slot were moved, the others stand in theirs, and there is room for them
abbrev pub invariant-loop-slot : goal.invariant-loop-slot
invariant-loop-slot g l = record {
  moved : MovedSoFar l.slot-index l.fn.array l.slots l.block.items;
  room : l.slot-index + l.block.room ≡ length l.fn.array;
}
