use Rattle.ga_core.proofs.array_iter.GenericArrayIter.drop_left.Given as goal
use Rattle.std.proofs.Common.{◌≡◌, drop}

-- so many were dropped
abbrev pub invariant-loop-item : goal.invariant-loop-item
invariant-loop-item g l = l.self ≡ drop l._item l.fn.self
