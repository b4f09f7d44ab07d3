use Rattle.ga_ciphers.proofs.KeystreamLemmas.{under_so_far}
use Rattle.ga_ciphers.proofs.counter_mode.CounterMode.apply_all.Given as goal
use Rattle.ga_ciphers.specs.Keystream.{IsCurrent}
use Rattle.std.proofs.Common.{◌≡◌, ◌+◌, ◌-◌, ◌≤◌, length}

-- the bytes that are done are under the key, and the place is behind them
abbrev pub invariant-pieces : goal.invariant-pieces
invariant-pieces g l =
    let block = g.C.BlockStream.block l.fn.self.cipher in
    let width = g.C.BlockSize.Unsigned.USIZE in
    record {
      cipher : l.self-inside.cipher ≡ l.fn.self.cipher;
      position : l.self-inside.position ≡ l.fn.self.position + l.done;
      current : IsCurrent block width l.self-inside.position l.self-inside.block;
      done : l.done ≤ length l.fn.bytes;
      text : l.bytes ≡ under_so_far block width l.fn.self.position l.fn.bytes l.done;
    }

-- the bytes that are left
abbrev pub decreases-pieces : goal.decreases-pieces
decreases-pieces g l = length l.fn.bytes - l.done
