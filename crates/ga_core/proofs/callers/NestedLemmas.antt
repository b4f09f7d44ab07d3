-- Arrays of arrays: their equality, and copies of them.
use Rattle.std.specs.Prelude.{◌≡◌, Bool, Decides, List, map}
use Rattle.std.specs.Cmp.Lexicographic.{pointwise}
use Rattle.std.proofs.Common.{◌∙◌, refl}
use Rattle.std.proofs.lemmas.List.{map-id}
use Rattle.std.proofs.lemmas.Slice.Eq.{slice_eq-Decides}

module _ {T : Type 0} where
  -- a map that changes no item gives the items
  pub unchanged : (made items : List T) → made ≡ map (λ item. item) items → made ≡ items
  unchanged made items same = same ∙ map-id items

  -- where items are compared exactly, so are rows of them
  pub rows_decide : {eq : T → T → Bool} → ((left right : T) → Decides (eq left right) (left ≡ right))
      → (left right : List T) → Decides (pointwise eq left right) (left ≡ right)
  rows_decide exact left right = slice_eq-Decides exact left right _ refl
