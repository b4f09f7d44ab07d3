use Rattle.ga_core.proofs.MoveLemmas.{MovedSoFar}
use Rattle.ga_core.proofs.slots.move_items.Given as goal
use Rattle.std.proofs.Common.{take, All}

-- the items up to this slot were moved and left defaults, and the others stand in theirs
abbrev pub invariant-loop-index : goal.invariant-loop-index
invariant-loop-index g l = record {
  moved : MovedSoFar l.index l.initial.items l.items (take l.index l.slots);
  left : All g.T.Default.is_default (take l.index l.items);
}
