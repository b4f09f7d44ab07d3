use Rattle.ga_core_examples.proofs.digits_in_place.take_digit.Given as goal
use Rattle.ga_core_examples.specs.Digits.{number_of}
use Rattle.std.proofs.Common.{◌≡◌, ℕ, ◌+◌, ◌*◌, ◌<◌, ◌≤◌, slice_index, take}

-- the bytes so far are divided, and the others are as they were
abbrev pub invariant-loop-byte : goal.invariant-loop-byte
invariant-loop-byte l = (l.rest < 58)
    × (58 * number_of 256 (take l.byte-index l.number) + l.rest ≡ number_of 256 (take l.byte-index l.fn.number))
    × ((k : ℕ) → l.byte-index ≤ k → slice_index l.number k ≡ slice_index l.fn.number k)
