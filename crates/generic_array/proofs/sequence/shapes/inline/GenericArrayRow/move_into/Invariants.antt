use Rattle.generic_array.proofs.sequence.shapes.inline.GenericArrayRow.move_into.Given as goal
use Rattle.std.proofs.Common.{◌≡◌, ◌++◌}

-- The items joined and those that are left are those of before and the row's.
abbrev pub invariant-loop-item : goal.invariant-loop-item
invariant-loop-item g l = record {
  can : (goal.iterator-loop-item g).can_next l.item-iterator;
  ends : (goal.iterator-loop-item g).is_finite l.item-iterator;
  same : l.joined ++ l.item-iterator ≡ l.initial.joined ++ l.fn.self;
}
