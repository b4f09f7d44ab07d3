use Rattle.ga_core.proofs.builder.ArrayBuilder.try_extend.Given as goal
use Rattle.std.proofs.Common.{◌≡◌, List, ◌++◌, ◌-◌, Ok, length, map}
use Rattle.std.specs.Iterator.{Yields}

-- the good values so far are appended, and the iterator may be asked on
abbrev pub invariant-loop-items : goal.invariant-loop-items
invariant-loop-items g l = record {
  can : g.I.Iterator.can_next l.items;
  taken : (taken : List g.row.T.Denot) × (l.self ≡ l.initial.self ++ taken)
      × Yields g.I.Iterator.next_gives l.initial.items (map Ok taken) l.items;
}

-- the slots that are left; an iterator that never ends is asked all the same
abbrev pub decreases-loop-items : goal.decreases-loop-items
decreases-loop-items g l = g.N.Unsigned.USIZE - length l.self
