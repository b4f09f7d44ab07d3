-- Items written over or put in.
use Rattle.std.proofs.Common.{◌≡◌, ◌∙◌, ℕ, zero, suc, ◌+◌, ◌-◌, ◌<◌, ◌≤◌, List, [], ◌∷◌, ◌++◌, Some, add-one, ap, arith}
use Rattle.std.proofs.Common.{drop, length, refl, replicate, slice_set, subst, sym, take}
use Rattle.std.proofs.lemmas.List.{take_all, take_at}
use Rattle.std.proofs.lemmas.List.Sorted.{IsPermutation-insert}
use Rattle.std.specs.List.{insert, slice_get}
use Rattle.std.specs.List.Sorted.{IsPermutation}
use Rattle.std.specs.Prelude.{unwrap_or}

module _ {X : Type 0} where
  last_of : (at : ℕ) (old item : X) → slice_set (replicate (suc at) old) at item ≡ replicate at old ++ item ∷ []
  last_of zero old item = refl
  last_of (suc at) old item = ap (λ l. old ∷ l) (last_of at old item)

  -- the last of items that are the same, as of a filled array
  pub last_set : (xs : List X) (n at : ℕ) (old item : X) → xs ≡ replicate n old → n ≡ at + 1
      → slice_set xs at item ≡ replicate at old ++ item ∷ []
  last_set xs n at old item is long = rw (is, long, add-one at) (last_of at old item)

  -- the item that was read, as where a call on `&mut array[i]` fails and writes nothing
  pub same_kept : (xs : List X) (i : ℕ) (x : X) → slice_get xs i ≡ Some x → slice_set xs i x ≡ xs
  same_kept [] i x got = refl
  same_kept (y ∷ xs) zero x got = ap (λ o. unwrap_or o x ∷ xs) (sym got)
  same_kept (y ∷ xs) (suc i) x got = ap (λ l. y ∷ l) (same_kept xs i x got)

  -- an item put in: the same items, and one more
  pub inserted_same : (after xs : List X) (i : ℕ) (y : X) → after ≡ insert xs i y → IsPermutation (y ∷ xs) after
  inserted_same after xs i y is = subst (IsPermutation (y ∷ xs)) (sym is) (IsPermutation-insert xs i y)

  taken_one_on : (i n : ℕ) (xs : List X) (y : X) → i ≤ n
      → take (suc n) (take i xs ++ y ∷ drop i xs) ≡ take i (take n xs) ++ y ∷ drop i (take n xs)
  taken_one_on zero n xs y low = refl
  taken_one_on (suc i) zero xs y low = absurd (omega arith)
  taken_one_on (suc i) (suc n) [] y low = refl
  taken_one_on (suc i) (suc n) (x ∷ xs) y low = ap (λ l. x ∷ l) (taken_one_on i n xs y (omega arith))

  -- an item put in where the last one goes, or is the last one itself
  pub insert_taken : (xs : List X) (i n : ℕ) (y : X) → i < n → take n (insert xs i y) ≡ insert (take (n - 1) xs) i y
  insert_taken xs i n y low =
      let next : n ≡ suc (n - 1) = omega arith in
      ap (λ k. take k (insert xs i y)) next ∙ taken_one_on i (n - 1) xs y (omega arith)

  pub insert_past : (xs : List X) (i n : ℕ) (y : X) → i ≡ n → n ≡ length xs → take n (insert xs i y) ≡ xs
  insert_past xs i n y at long =
      let all : take n xs ≡ xs = take_all n xs (omega arith) in
      rw (at, all) (take_at xs (y ∷ drop n xs) n (sym long))

-- an item written or put in, said in another form
pub ruleset edits = (last_set, same_kept, inserted_same)
