-- Two lists of one length, compared pair by pair in parts.
use Rattle.ga_core.proofs.MoveLemmas.{next-here}
use Rattle.std.proofs.Common.{◌≡◌, ℕ, zero, suc, ◌+◌, ◌-◌, ◌<◌, ◌≤◌, Bool, true, false, ◌&&◌, List, [], ◌∷◌, Ordering}
use Rattle.std.proofs.Common.{take, drop, length, ap, sym, ◌∙◌, refl, arith, inl, inr, Option, slice_index_or, eqb}
use Rattle.std.proofs.Math.Bool.{and_assoc, and-false, and-true}
use Rattle.std.proofs.lemmas.Bool.Decides.{eqb_tells}
use Rattle.std.proofs.lemmas.List.{drop-take, take-take, take_all, take_rest}
use Rattle.std.specs.Cmp.{Equal-is, IsPartialOrder}
use Rattle.std.specs.Cmp.Lexicographic.{pointwise, slice_cmp, slice_partial_cmp}
use Rattle.std.specs.Ordering.{eq_by_cmp, ordering_then, partial_ordering_then}

and-both : (a b : Bool) → (a && b) ≡ true → (a ≡ true) × (b ≡ true)
and-both true b both = (refl, both)
and-both false b both = cc

module _ {T : Type 0} (E : T → T → Bool) where
  -- the first n pairs, and those behind them
  pointwise-cut : (n : ℕ) (xs ys : List T)
      → pointwise E xs ys ≡ (pointwise E (take n xs) (take n ys) && pointwise E (drop n xs) (drop n ys))
  pointwise-cut zero xs ys = refl
  pointwise-cut (suc n) [] [] = refl
  pointwise-cut (suc n) (x ∷ xs) (y ∷ ys) =
      ap (λ b. E x y && b) (pointwise-cut n xs ys)
      ∙ sym (and_assoc (E x y) (pointwise E (take n xs) (take n ys)) (pointwise E (drop n xs) (drop n ys)))
  pointwise-cut (suc n) _ _ = refl

  -- the first n pairs, and the m behind them
  pointwise-parts : (n m : ℕ) (xs ys : List T) → pointwise E (take (n + m) xs) (take (n + m) ys)
      ≡ (pointwise E (take n xs) (take n ys) && pointwise E (take m (drop n xs)) (take m (drop n ys)))
  pointwise-parts n m xs ys =
      let within : (l : List T) → take n (take (n + m) l) ≡ take n l = λ l. take-take n (n + m) l (omega arith) in
      pointwise-cut n (take (n + m) xs) (take (n + m) ys)
      ∙ (λ i. pointwise E (within xs i) (within ys i) && pointwise E (drop-take n m xs i) (drop-take n m ys i))

  -- the pairs so far, and the next
  pub pointwise-next : (n : ℕ) (xs ys : List T) (x y : T) → n < length xs → length xs ≡ length ys
      → x ≡ slice_index_or xs n x → y ≡ slice_index_or ys n y
      → pointwise E (take (n + 1) xs) (take (n + 1) ys) ≡ (pointwise E (take n xs) (take n ys) && E x y)
  pointwise-next n xs ys x y some long this that =
      rw (pointwise-parts n 1 xs ys, next-here n xs xs x some this refl, next-here n ys ys y (omega arith) that refl)
      (ap (λ b. pointwise E (take n xs) (take n ys) && b) (and-true (E x y)))

  -- the first n pairs are equal, and so are the m behind them
  pub block-equal : (n m end : ℕ) (xs ys : List T) → n + m ≡ end → pointwise E (take n xs) (take n ys) ≡ true
      → true ≡ pointwise E (take m (drop n xs)) (take m (drop n ys)) → pointwise E (take end xs) (take end ys) ≡ true
  block-equal n m end xs ys sum before here =
      rw (← sum, pointwise-parts n m xs ys, before) (sym here)

  -- of the m pairs behind the first n, one is not equal
  pub block-differs : (n m : ℕ) (xs ys : List T)
      → false ≡ pointwise E (take m (drop n xs)) (take m (drop n ys)) → pointwise E xs ys ≡ false
  block-differs n m xs ys here =
      rw (pointwise-cut n xs ys, pointwise-cut m (drop n xs) (drop n ys), ← here)
      (and-false (pointwise E (take n xs) (take n ys)))

  -- as many pairs as there are
  pub pointwise-all : (n : ℕ) (xs ys : List T) → length xs ≤ n → length xs ≡ length ys
      → pointwise E (take n xs) (take n ys) ≡ pointwise E xs ys
  pointwise-all n xs ys enough long i = pointwise E (take_all n xs enough i) (take_all n ys (omega arith) i)

  -- all pairs are equal where as many at the start are as there are
  pub start-tells : (n : ℕ) (xs ys : List T) → length xs ≡ length ys → n ≤ length xs
      → pointwise E (take n xs) (take n ys) ≡ true → (n < length xs → pointwise E xs ys ≡ false)
      → eqb n (length xs) ≡ pointwise E xs ys
  start-tells n xs ys long within equal differs =
      elim (eqb_tells n (length xs)) [
        | inl all ↦ all.0 ∙ (sym equal ∙ pointwise-all n xs ys (omega (arith, all.1)) long)
        | inr other ↦ other.0 ∙ sym (differs (omega (arith, within, other.1)))
      ]

  -- a comparison of lists that equal first items leave as it is
  abbrev pub Skips : {O : Type 0} → (List T → List T → O) → Type 0
  Skips compare = (x y : T) (xs ys : List T) → E x y ≡ true → compare (x ∷ xs) (y ∷ ys) ≡ compare xs ys

  pub cmp-skips : (R : T → T → Ordering) → ((x y : T) → E x y ≡ eq_by_cmp R x y) → Skips (slice_cmp R)
  cmp-skips R ties x y xs ys equal =
      ap (λ found. ordering_then found (slice_cmp R xs ys)) ((Equal-is (R x y)).0 (sym (ties x y) ∙ equal))

  pub partial_cmp-skips : {C : T → T → Option Ordering} → IsPartialOrder E C → Skips (slice_partial_cmp C)
  partial_cmp-skips {C} laws x y xs ys equal =
      ap (λ found. partial_ordering_then found (slice_partial_cmp C xs ys)) ((laws.matches_eq x y).0 equal)

  module _ {O : Type 0} (compare : List T → List T → O) (skips : Skips compare) where
    compare-behind : (n : ℕ) (xs ys : List T) → pointwise E (take n xs) (take n ys) ≡ true
        → compare xs ys ≡ compare (drop n xs) (drop n ys)
    compare-behind zero xs ys equal = refl
    compare-behind (suc n) [] [] equal = refl
    compare-behind (suc n) (x ∷ xs) (y ∷ ys) equal =
        let both = and-both (E x y) (pointwise E (take n xs) (take n ys)) equal in
        skips x y xs ys both.0 ∙ compare-behind n xs ys both.1
    compare-behind (suc n) _ _ equal = cc

    -- it may leave equal pairs at the start out
    pub compare-rest : (n : ℕ) (xs ys : List T) → pointwise E (take n xs) (take n ys) ≡ true
        → compare (take (length xs - n) (drop n xs)) (take (length ys - n) (drop n ys)) ≡ compare xs ys
    compare-rest n xs ys equal =
        (λ i. compare (take_rest xs n i) (take_rest ys n i)) ∙ sym (compare-behind n xs ys equal)
