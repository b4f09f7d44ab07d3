use Rattle.ga_core_examples.proofs.iterators.total.Given as goal
use Rattle.std.proofs.Common.{◌≡◌, ◌+◌, sum}

-- the sum so far and that of what is left are the whole sum
abbrev pub invariant-loop-item : goal.invariant-loop-item
invariant-loop-item g l = l.total + sum l.item-iterator ≡ sum l.fn.array
