use Rattle.ga_core.proofs.MoveLemmas.{MovedSoFar}
use Rattle.ga_core.proofs.array.conversions.push_items.Given as goal
use Rattle.std.proofs.Common.{◌≤◌, length, vec_capacity}

-- the items up to this slot were moved, the others stand in theirs, and the block has room for all
abbrev pub invariant-loop-slot : goal.invariant-loop-slot
invariant-loop-slot g l = record {
  moved : MovedSoFar l.slot-index l.initial.slots l.slots l.items.items;
  room : length l.initial.slots ≤ vec_capacity l.items;
}
