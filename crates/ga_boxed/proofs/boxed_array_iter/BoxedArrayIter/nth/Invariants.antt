use Rattle.ga_boxed.proofs.boxed_array_iter.BoxedArrayIter.nth.Given as goal
use Rattle.std.proofs.Common.{◌≡◌, drop}

-- as many items are gone from the front as were passed over
abbrev pub invariant-loop-passed : goal.invariant-loop-passed
invariant-loop-passed g l = l.self-inside.items.items ≡ drop l._passed l.fn.self
