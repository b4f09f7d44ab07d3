-- Signed numbers weighed by others.
use Rattle.std.specs.Int.{int_wrapping_add, int_wrapping_mul, saturate_signed, w32, w64}
use Rattle.std.specs.List.{zip}
use Rattle.std.specs.Prelude.{ℤ, ◌+ℤ◌, ◌*ℤ◌, List, fold, map, pos}

-- the sum of the products in the same place, modulo 2^64
abbrev pub weighed : List ℤ → List ℤ → ℤ
weighed xs ys = fold (λ total x. int_wrapping_add w64 total x) (pos 0)
    (map (λ p. int_wrapping_mul w64 p.0 p.1) (zip xs ys))

-- the same, where each step stays between -2^31 and 2^31 - 1
abbrev pub saturated : List ℤ → List ℤ → ℤ
saturated xs ys = fold (λ total x. saturate_signed w32 (total +ℤ x)) (pos 0)
    (map (λ p. saturate_signed w32 (p.0 *ℤ p.1)) (zip xs ys))
