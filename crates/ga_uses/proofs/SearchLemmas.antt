-- What a search among entries in the order of their keys finds, and the entries between two places.
use Rattle.ga_uses.proofs.EntryLemmas.{AboveFirst, AnswersAt, turned, turned_less}
use Rattle.std.proofs.Common.{◌≡◌, ℕ, zero, suc, ◌+◌, ◌<◌, ◌≤◌, Bool, true, false, not, List, [], ◌∷◌, length, get_or}
use Rattle.std.proofs.Common.{take, drop, refl, sym, ◌∙◌, ap, arith, leb, Ordering, Less, Equal, Greater}
use Rattle.std.proofs.Math.Seq.{drop-nil, take-nil}
use Rattle.std.proofs.lemmas.List.{get_or-map}
use Rattle.std.proofs.lemmas.List.Sorted.{IsPartitionedBy-leb, searchable_from_sorted}
use Rattle.std.proofs.lemmas.Map.Entries.{length-keys_of}
use Rattle.std.proofs.lemmas.Map.Keys.{Less-from_sorted}
use Rattle.std.specs.Cmp.{IsTotalOrder, alike_right, tied_back}
use Rattle.std.specs.List.{AllWithin, filter}
use Rattle.std.specs.List.Sorted.{IsStrictlySortedBy, IsNonDecreasingBy, IsPartitionedBy}
use Rattle.std.specs.Map.{keys_of}
use Rattle.std.specs.Ordering.{is_le, is_lt, ordering_index, ordering_reverse}

module _ {K X : Type 0} {R : K → K → Ordering} (o : IsTotalOrder R) (k : K) where
  -- the key at a place is below those at later places
  less_at : (es : List (K × X)) (i j : ℕ) (d : K × X) → IsStrictlySortedBy R (keys_of es) → i < j → j < length es
      → R (get_or es i d).0 (get_or es j d).0 ≡ Less
  less_at es i j d sorted before within =
      rw (get_or-map (λ e. e.0) es i d d.0 (omega arith), get_or-map (λ e. e.0) es j d d.0 within) at
      (Less-from_sorted R (keys_of es) i j d.0 sorted before (rw (length-keys_of es) within))

  -- of two keys in order, the first is no further from the low end than the second, as one key tells
  pub rises : (es : List (K × X)) → IsStrictlySortedBy R (keys_of es)
      → IsNonDecreasingBy (λ e. ordering_index (R e.0 k)) es
  rises es sorted = searchable_from_sorted o (λ e. e.0) es k
      (λ j d low below. ap is_lt (turned_less o _ _ (less_at es j (j + 1) d sorted (omega arith) below)))

  pub above_from : (es : List (K × X)) (i : ℕ) → i ≤ length es → AllWithin (λ e. R e.0 k ≡ Less) es 0 i
      → AboveFirst R k es i
  above_from es zero le within = tt
  above_from [] (suc i) le within = absurd (omega (arith, le))
  above_from (e ∷ es) (suc i) le within = (
    turned_less o k e.0 (within 0 e (omega arith) (omega arith)),
    above_from es i (omega (arith, le)) (λ j d low high. within (suc j) d (omega arith) (omega (arith, high))),
  )

  pub answers_from : (es : List (K × X)) (i : ℕ) → AllWithin (λ e. R e.0 k ≡ Greater) es i (length es)
      → AnswersAt R k es i Less
  answers_from [] i within = tt
  answers_from (e ∷ es) zero within = turned o e.0 k (within 0 e (omega arith) (omega arith))
  answers_from (e ∷ es) (suc i) within = answers_from es i
      (λ j d low high. within (suc j) d (omega (arith, low)) (omega (arith, high)))

  -- the keys before a place that has k are below it
  pub above_at : (es : List (K × X)) (i : ℕ) → i < length es → IsStrictlySortedBy R (keys_of es)
      → ((d : K × X) → R (get_or es i d).0 k ≡ Equal) → AboveFirst R k es i × AnswersAt R k es i Equal
  above_at es i lt sorted at = (
    above_from es i (omega arith) (λ j d low high. sym (alike_right o _ k _ (at d)) ∙ less_at es j i d sorted high lt),
    answers_at es i at,
  )
    where
      answers_at : (es : List (K × X)) (i : ℕ) → ((d : K × X) → R (get_or es i d).0 k ≡ Equal)
          → AnswersAt R k es i Equal
      answers_at [] i at = tt
      answers_at (e ∷ es) zero at = tied_back o e.0 k (at e)
      answers_at (e ∷ es) (suc i) at = answers_at es i at

-- ---- the entries between two places

-- what passes a test stands at n places from m on
pub filter_between : {X : Type 0} (p : X → Bool) (es : List X) (m n : ℕ) → m + n ≤ length es
    → AllWithin (λ e. p e ≡ false) es 0 m → AllWithin (λ e. p e ≡ true) es m (m + n)
    → AllWithin (λ e. p e ≡ false) es (m + n) (length es) → filter p es ≡ take n (drop m es)
filter_between p [] m n le front middle back = rw (drop-nil m, take-nil n) refl
filter_between p (e ∷ es) zero zero le front middle back =
    rw (back 0 e (omega arith) (omega arith)) (filter_between p es zero zero (omega arith)
    (λ j d low high. absurd (omega arith)) (λ j d low high. absurd (omega arith))
    (λ j d low high. back (suc j) d (omega arith) (omega arith)))
filter_between p (e ∷ es) zero (suc n) le front middle back =
    rw (middle 0 e (omega arith) (omega arith)) (ap (λ l. e ∷ l) (filter_between p es zero n (omega arith)
    (λ j d low high. absurd (omega arith)) (λ j d low high. middle (suc j) d (omega arith) (omega arith))
    (λ j d low high. back (suc j) d (omega arith) (omega arith))))
filter_between p (e ∷ es) (suc m) n le front middle back =
    rw (front 0 e (omega arith) (omega arith)) (filter_between p es m n (omega arith)
    (λ j d low high. front (suc j) d (omega arith) (omega arith))
    (λ j d low high. middle (suc j) d (omega arith) (omega arith))
    (λ j d low high. back (suc j) d (omega arith) (omega arith)))

least_index : (r : Ordering) → is_lt r ≡ leb (ordering_index r) 0
least_index Less = refl
least_index Equal = refl
least_index Greater = refl

-- what is below a key comes before what isn't
pub parted : {K X : Type 0} {R : K → K → Ordering} → IsTotalOrder R → (k : K) (es : List (K × X))
    → IsStrictlySortedBy R (keys_of es) → IsPartitionedBy (λ e. is_lt (R e.0 k)) es
parted {R = R} o k es sorted i j d le lt below = least_index _
    ∙ IsPartitionedBy-leb (λ e. ordering_index (R e.0 k)) es 0 (rises o k es sorted) i j d le lt
    (sym (least_index _) ∙ below)

pub from_not_less : {K : Type 0} {R : K → K → Ordering} → IsTotalOrder R → (k x : K) (b : Bool) → is_lt (R x k) ≡ b
    → is_le (R k x) ≡ not b
from_not_less {R = R} o k x b h = ap is_le (o.antisymm k x) ∙ flipped (R x k) ∙ ap not h
  where
    flipped : (r : Ordering) → is_le (ordering_reverse r) ≡ not (is_lt r)
    flipped Less = refl
    flipped Equal = refl
    flipped Greater = refl
