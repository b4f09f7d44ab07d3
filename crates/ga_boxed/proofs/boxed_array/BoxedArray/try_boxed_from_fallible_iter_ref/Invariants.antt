use Rattle.ga_boxed.proofs.boxed_array.BoxedArray.try_boxed_from_fallible_iter_ref.Given as goal
use Rattle.std.proofs.Common.{◌≡◌, ◌+◌, Ok, length, map}
use Rattle.std.specs.Iterator.{Yields}

-- the good values so far were taken, there is room for the others, and the iterator may be asked on
abbrev pub invariant-loop-items : goal.invariant-loop-items
invariant-loop-items g l = record {
  can : g.I.Iterator.can_next l.items;
  taken : Yields g.I.Iterator.next_gives l.fn.items (map Ok l.block.items) l.items;
  room : length l.block.items + l.block.room ≡ g.N.Unsigned.USIZE;
}

-- the slots that are left; an iterator that never ends is asked all the same
abbrev pub decreases-loop-items : goal.decreases-loop-items
decreases-loop-items g l = l.block.room
