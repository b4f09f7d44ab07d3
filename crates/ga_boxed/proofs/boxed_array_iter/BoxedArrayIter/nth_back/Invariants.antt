use Rattle.ga_boxed.proofs.boxed_array_iter.BoxedArrayIter.nth_back.Given as goal
use Rattle.std.proofs.Common.{◌≡◌, drop, reverse}

-- as many items are gone from the back as were passed over
abbrev pub invariant-loop-passed_back : goal.invariant-loop-passed_back
invariant-loop-passed_back g l = reverse l.self-inside.items.items ≡ drop l._passed_back (reverse l.fn.self)
