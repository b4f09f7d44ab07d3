use Rattle.ga_boxed.proofs.BlockLemmas.{TakenSoFar}
use Rattle.ga_boxed.proofs.boxed_array.BoxedArray.try_boxed_from_iter_ref.Given as goal
use Rattle.std.proofs.Common.{◌≤◌}

-- between blocks, within one, whose end isn't passed, and behind the last
abbrev pub invariant-loop-block : goal.invariant-loop-block
invariant-loop-block g l = TakenSoFar g.I.Iterator.can_next g.I.Iterator.next_gives l.fn.items g.N.Unsigned.USIZE l.block l.items

abbrev pub invariant-loop-less : goal.invariant-loop-less
invariant-loop-less g l = record {
  so_far : TakenSoFar g.I.Iterator.can_next g.I.Iterator.next_gives l.fn.items g.N.Unsigned.USIZE l.block l.items;
  within : l.less ≤ l.block.room;
}

abbrev pub invariant-loop-items : goal.invariant-loop-items
invariant-loop-items g l = TakenSoFar g.I.Iterator.can_next g.I.Iterator.next_gives l.fn.items g.N.Unsigned.USIZE l.block l.items

-- the slots that are left; an iterator that never ends is asked all the same
abbrev pub decreases-loop-block : goal.decreases-loop-block
decreases-loop-block g l = l.block.room

abbrev pub decreases-loop-less : goal.decreases-loop-less
decreases-loop-less g l = l.block.room

abbrev pub decreases-loop-items : goal.decreases-loop-items
decreases-loop-items g l = l.block.room
