use Rattle.ga_examples.proofs.uses.digests.digest_chain.Given as goal
use Rattle.ga_examples.specs.Chained.{chained}
use Rattle.std.proofs.Common.{◌≡◌}

-- the digest so far was digested again so many times
abbrev pub invariant-loop : goal.invariant-loop
invariant-loop g l = l.end ≡ chained g.H.HashFunction.digest l.message l.counter
