use Rattle.ga_ciphers.proofs.KeystreamLemmas.{under-from_places}
use Rattle.ga_ciphers.proofs.counter_mode.xor.Goals as goal
use Rattle.std.proofs.Common.{arith}

pub returns : goal.returns
returns c = under-from_places c.args.bytes.now c.args.key.now _ c.requires (omega arith)
    (λ k below. c.loop-index.invariant.0 k (omega arith))
