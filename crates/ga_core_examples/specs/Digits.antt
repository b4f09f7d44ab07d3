-- The digits that callers read from text, and numbers of digits.
use Rattle.std.specs.Prelude.{ℕ, ◌+◌, ◌*◌, ◌-◌, ◌&&◌, List, Result, Ok, Err, fold, nat_le, nat_lt, if◌then◌else◌}

-- the digit that a byte stands for, or the byte where it is no digit in this base
abbrev pub digit_of : ℕ → ℕ → Result ℕ ℕ
digit_of base byte = if nat_le 48 byte && nat_lt (byte - 48) base then Ok (byte - 48) else Err byte

-- the number of digits in a base, the highest digit first
abbrev pub number_of : ℕ → List ℕ → ℕ
number_of base digits = fold (λ number digit. number * base + digit) 0 digits
