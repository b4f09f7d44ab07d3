use Rattle.ga_ciphers.proofs.counter_mode.xor.Given as goal
use Rattle.std.proofs.Common.{◌≡◌, ℕ, ◌<◌, ◌≤◌, bit_xor, get_or}

-- the bytes before the place are under the key, and the others as they were
abbrev pub invariant-loop-index : goal.invariant-loop-index
invariant-loop-index l =
    ((k : ℕ) → k < l.index → get_or l.bytes k 0 ≡ bit_xor (get_or l.fn.bytes k 0) (get_or l.key k 0))
    × ((k : ℕ) → l.index ≤ k → get_or l.bytes k 0 ≡ get_or l.fn.bytes k 0)
