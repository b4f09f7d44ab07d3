use Rattle.ga_ciphers.proofs.chacha20.ten_double_rounds.Given as goal
use Rattle.rand_chacha.specs.Block.{double_rounds}
use Rattle.std.proofs.Common.{◌≡◌}

-- the state after the double rounds so far
abbrev pub invariant-rounds : goal.invariant-rounds
invariant-rounds l = l.words ≡ double_rounds l._round l.fn.state
