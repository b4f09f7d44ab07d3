-- A list is the items that a pattern takes from its places.
use Rattle.std.proofs.Common.{◌≡◌, ◌+◌, ◌∷◌, [], ap, arith, drop, get_or, length, List, ℕ}
use Rattle.std.proofs.lemmas.List.{drop_more}
use lib.ListN.{drop_of_length-le}

-- the items stand at the places from i on
abbrev pub Stand : {X : Type 0} → List X → ℕ → List X → Type 0
Stand xs i [] = Unit {0}
Stand xs i (y ∷ ys) = (y ≡ get_or xs i y) × Stand xs (i + 1) ys

rest_is : {X : Type 0} (xs ys : List X) (i : ℕ) → length xs ≡ i + length ys → Stand xs i ys → drop i xs ≡ ys
rest_is xs [] i long stand = drop_of_length-le xs (omega (arith, long))
rest_is xs (y ∷ ys) i long stand =
    rw (drop_more xs i y (omega (arith, long)), ← stand.0)
    (ap (λ rest. y ∷ rest) (rest_is xs ys (i + 1) (omega (arith, long)) stand.1))

pub all_stand : {X : Type 0} (xs ys : List X) → length xs ≡ length ys → Stand xs 0 ys → xs ≡ ys
all_stand xs ys long stand = rest_is xs ys 0 (omega (arith, long)) stand
