use Rattle.ga_core_examples.proofs.digits_in_place.put_digit.Given as goal
use Rattle.ga_core.specs.Digits.{number_low}
use Rattle.std.proofs.Common.{◌≡◌, ℕ, ◌+◌, ◌*◌, ◌^◌, ◌<◌, ◌≤◌, slice_index, take}

-- the bytes so far are multiplied, and the others are as they were
abbrev pub invariant-loop-byte : goal.invariant-loop-byte
invariant-loop-byte l = (l.over < 58)
    × (number_low 256 (take l.byte-index l.number) + 256 ^ l.byte-index * l.over
    ≡ 58 * number_low 256 (take l.byte-index l.fn.number) + l.digit)
    × ((k : ℕ) → l.byte-index ≤ k → slice_index l.number k ≡ slice_index l.fn.number k)
