-- Numbers and their digits.
use Rattle.std.specs.Prelude.{ℕ, ◌+◌, ◌*◌, List, [], ◌∷◌}

-- the number of these digits in a base, the lowest first
abbrev pub number_low : ℕ → List ℕ → ℕ
number_low base [] = 0
number_low base (digit ∷ digits) = digit + base * number_low base digits
