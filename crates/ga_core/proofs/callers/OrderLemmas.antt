-- Numbers in order: sorted where they lie in an array, and put into a list that doesn't rise.
use Rattle.ga_core.proofs.callers.EditLemmas.{insert_past, insert_taken, inserted_same}
use Rattle.std.proofs.Common.{◌≡◌, ◌∙◌, ℕ, zero, suc, ◌+◌, ◌<◌, ◌≤◌, List, [], ◌∷◌, Bool, true, false, add-one, ap, arith}
use Rattle.std.proofs.Common.{cond, drop, get_or, length, length-take, nat_cmp, nat_le, refl, subst, sym}
use Rattle.std.proofs.lemmas.Bool.Decides.{nat_tests}
use Rattle.std.proofs.lemmas.List.{take_at}
use Rattle.std.proofs.lemmas.List.Sorted.{IsNonDecreasingBy-from_sort}
use Rattle.std.proofs.lemmas.List.Sums.{prefix_len-le-length}
use Rattle.std.specs.List.{insert, prefix_len, refill, take_while}
use Rattle.std.specs.List.Sorted.{IsSorted}

-- what a sort ensures, of two places of an array whose slice was sorted
pub in_order_written : (old new : List ℕ) (i j d : ℕ) → IsSorted nat_cmp new → length new ≡ length old → i ≤ j
    → j < length (refill (length old) old new)
    → get_or (refill (length old) old new) i d ≤ get_or (refill (length old) old new) j d
in_order_written old new i j d sorted long low inside =
    let all : refill (length old) old new ≡ new = take_at new (drop (length new) old) (length old) long in
    rw all (IsNonDecreasingBy-from_sort (λ x. x) new sorted i j d low (rw all at inside))

pub ruleset ordered = (in_order_written)

abbrev Falls : List ℕ → Type 0
Falls xs = (k : ℕ) → suc k < length xs → get_or xs (suc k) 0 ≤ get_or xs k 0

module _ (y : ℕ) where
  abbrev before : List ℕ → ℕ
  before xs = prefix_len (λ other. nat_le y other) xs

  abbrev put : List ℕ → List ℕ
  put xs = insert xs (before xs) y

  -- a number is put behind one that isn't below it, and before one that is
  put-behind : (x : ℕ) (xs : List ℕ) → nat_le y x ≡ true → put (x ∷ xs) ≡ x ∷ put xs
  put-behind x xs high =
      let next : 1 + before xs ≡ suc (before xs) = omega arith in
      ap (λ b. insert (x ∷ xs) (cond b (1 + before xs) 0) y) high ∙ ap (λ n. insert (x ∷ xs) n y) next

  put-before : (x : ℕ) (xs : List ℕ) → nat_le y x ≡ false → put (x ∷ xs) ≡ y ∷ x ∷ xs
  put-before x xs low = ap (λ b. insert (x ∷ xs) (cond b (1 + before xs) 0) y) low

  -- nothing is above what stood or is put in front
  under : (x : ℕ) (xs : List ℕ) → y ≤ x → Falls (x ∷ xs) → get_or (put xs) 0 0 ≤ x
  under x [] low falls = low
  under x (z ∷ zs) low falls = by (nat_le y z) refl where
    by : (b : Bool) → nat_le y z ≡ b → get_or (put (z ∷ zs)) 0 0 ≤ x
    by true high = rw (put-behind z zs high) (falls 0 (omega arith))
    by false high = rw (put-before z zs high) low

  put-falls : (xs : List ℕ) → Falls xs → Falls (put xs)
  put-falls [] falls = λ k here. absurd (omega (arith, here))
  put-falls (x ∷ xs) falls = by (nat_le y x) refl (put-falls xs (λ k inside. falls (suc k) (omega (arith, inside)))) where
    by : (b : Bool) → nat_le y x ≡ b → Falls (put xs) → Falls (put (x ∷ xs))
    by true high others = subst Falls (sym (put-behind x xs high)) behind where
      behind : Falls (x ∷ put xs)
      behind zero here = under x xs (grind (arith, nat_tests)) falls
      behind (suc k) here = others k (omega (arith, here))
    by false low others = subst Falls (sym (put-before x xs low)) first where
      first : Falls (y ∷ x ∷ xs)
      first zero here = grind (arith, nat_tests)
      first (suc k) here = falls k (omega (arith, here))

-- a number put behind those that aren't below it, in a list that doesn't rise
pub insert_falls : (xs after : List ℕ) (y i k : ℕ) → after ≡ insert xs i y
    → i ≡ length (take_while (λ other. nat_le y other) xs)
    → ((k : ℕ) → k + 1 < length xs → get_or xs (k + 1) 0 ≤ get_or xs k 0)
    → k + 1 < length after → get_or after (k + 1) 0 ≤ get_or after k 0
insert_falls xs after y i k is at falls here =
    let all : i ≡ before y xs =
    at ∙ omega (arith, length-take (before y xs) xs, prefix_len-le-length (λ other. nat_le y other) xs) in
    let same : after ≡ put y xs = is ∙ ap (λ n. insert xs n y) all in
    rw (same, add-one k) (put-falls y xs (λ j inside. subst (λ m. get_or xs m 0 ≤ get_or xs j 0) (add-one j)
    (falls j (omega (arith, inside)))) k (omega (arith, here, ap length same)))

-- Not in `arrays`: next to `length-take` rows that a loop writes over stay open.
pub ruleset falling = (inserted_same, insert_taken, insert_past, insert_falls, length-take)
