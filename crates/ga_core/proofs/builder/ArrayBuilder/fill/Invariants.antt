use Rattle.ga_core.proofs.builder.ArrayBuilder.fill.Given as goal
use Rattle.std.proofs.Common.{◌≡◌, List, ◌++◌, ◌-◌, length}
use Rattle.std.specs.Iterator.{Yields}

-- what was taken so far is appended, and the iterator may be asked on
abbrev pub invariant-loop-self : goal.invariant-loop-self
invariant-loop-self g l = record {
  can : g.I.Iterator.can_next l.items;
  taken : (taken : List g.row.T.Denot) × (l.self ≡ l.initial.self ++ taken)
      × Yields g.I.Iterator.next_gives l.initial.items taken l.items;
}

-- the slots that are left
abbrev pub decreases-loop-self : goal.decreases-loop-self
decreases-loop-self g l = g.N.Unsigned.USIZE - length l.self
