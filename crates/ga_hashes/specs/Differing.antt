-- The bits in which bytes differ.
use Rattle.std.specs.Int.Bits.{bit_or, bit_xor}
use Rattle.std.specs.List.{fold, zip}
use Rattle.std.specs.Prelude.{ℕ, List}

-- those of `seen`, and all bits that differ at a place of both
abbrev pub differing : ℕ → List ℕ → List ℕ → ℕ
differing seen left right = fold (λ all p. bit_or all (bit_xor p.0 p.1)) seen (zip left right)
