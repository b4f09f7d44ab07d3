use Rattle.ga_core.proofs.builder.ArrayBuilder.take_some.Given as goal
use Rattle.std.proofs.Common.{◌≡◌, ◌≤◌, List, ◌++◌, ◌+◌, ◌-◌, length}
use Rattle.std.specs.Iterator.{Yields}

-- what was taken so far is appended, an item in each turn, and the iterator may be asked on
abbrev pub invariant-loop-items : goal.invariant-loop-items
invariant-loop-items g l = record {
  can : g.I.Iterator.can_next l.items;
  within : l.turn ≤ l.count;
  grown : length l.self ≡ length l.initial.self + l.turn;
  taken : (taken : List g.row.T.Denot) × (l.self ≡ l.initial.self ++ taken)
      × Yields g.I.Iterator.next_gives l.initial.items taken l.items;
}

-- the turns that are left; an iterator that never ends is asked all the same
abbrev pub decreases-loop-items : goal.decreases-loop-items
decreases-loop-items g l = l.count - l.turn
