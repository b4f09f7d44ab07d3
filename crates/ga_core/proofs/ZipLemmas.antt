-- Pairs of the items of two lists, by their places.
use Rattle.std.proofs.Common.{◌≡◌, ℕ, zero, suc, ◌+◌, ◌<◌, ◌≤◌, List, [], ◌∷◌, arith, drop, length, refl, sym, ◌∙◌}
use Rattle.std.proofs.Common.{slice_index_or, slice_set, drop-set-lt, zip}
use Rattle.std.proofs.lemmas.Slice.Zip.{length-zip}

module _ {A B : Type 0} where
  zip-nil : (xs : List A) → zip {X = B} xs [] ≡ []
  zip-nil [] = refl
  zip-nil (x ∷ xs) = refl

  drop-zip : (n : ℕ) (xs : List A) (ys : List B) → drop n (zip xs ys) ≡ zip (drop n xs) (drop n ys)
  drop-zip zero xs ys = refl
  drop-zip (suc n) [] ys = refl
  drop-zip (suc n) (x ∷ xs) [] = sym (zip-nil (drop n xs))
  drop-zip (suc n) (x ∷ xs) (y ∷ ys) = drop-zip n xs ys

  -- two items in the same place are the pair there
  pub pair-here : (n : ℕ) (xs : List A) (ys : List B) {x : A} {y : B} → x ≡ slice_index_or xs n x
      → y ≡ slice_index_or ys n y → (x, y) ≡ slice_index_or (zip xs ys) n (x, y)
  pair-here zero (a ∷ xs) (b ∷ ys) left right = λ i. (left i, right i)
  pair-here (suc n) (a ∷ xs) (b ∷ ys) left right = pair-here n xs ys left right
  pair-here zero (a ∷ xs) [] left right = refl
  pair-here (suc n) (a ∷ xs) [] left right = refl
  pair-here n [] ys left right = refl

  -- there are as many pairs as items on either side
  pub pair-in : {n width : ℕ} (xs : List A) (ys : List B) → n < width → length xs ≡ width → length ys ≡ width
      → n < length (zip xs ys)
  pair-in xs ys some left right = omega (arith, length-zip xs ys)

  pub pairs-in : {n width : ℕ} (xs : List A) (ys : List B) → width ≤ n → length xs ≡ width → length (zip xs ys) ≤ n
  pairs-in xs ys none left = omega (arith, length-zip xs ys)

  -- where both items of a pair were taken out, the others stand in their slots
  pub pairs-behind : (n : ℕ) (xs : List A) (ys : List B) (x : A) (y : B)
      → drop (n + 1) (zip (slice_set xs n x) (slice_set ys n y)) ≡ drop (n + 1) (zip xs ys)
  pairs-behind n xs ys x y = drop-zip (n + 1) (slice_set xs n x) (slice_set ys n y)
      ∙ ((λ i. zip (drop-set-lt (n + 1) xs n x (omega arith) i) (drop-set-lt (n + 1) ys n y (omega arith) i))
      ∙ sym (drop-zip (n + 1) xs ys))

  -- pairs of equal lists
  pub same-pairs : {xs others : List A} {ys more : List B} → xs ≡ others → ys ≡ more → zip xs ys ≡ zip others more
  same-pairs left right = cc
