-- Entries in the order of their keys: what an edit by key comes to at a place, keeps, and changes for a look-up.
use Rattle.std.proofs.Common.{◌≡◌, ℕ, zero, suc, ◌<◌, ◌≤◌, Bool, true, false, cond, List, [], ◌∷◌, length, get_or, set}
use Rattle.std.proofs.Common.{Option, Some, None, refl, sym, ◌∙◌, ap, arith, Ordering, Less, Equal, Greater}
use Rattle.std.proofs.lemmas.Map.{NonePasses, lookup-none}
use Rattle.std.proofs.lemmas.Map.Entries.{none_below_head}
use Rattle.std.specs.BTreeMap.{insert_entry, is_at}
use Rattle.std.specs.Cmp.{Equal-is, IsTotalOrder, alike_right, eq_by_cmp_equiv}
use Rattle.std.specs.List.{AllByRecursion, insert, remove}
use Rattle.std.specs.List.Sorted.{IsStrictlySortedBy}
use Rattle.std.specs.Map.{keys_of, lookup, remove_entry}
use Rattle.std.specs.Ordering.{is_eq, match_ordering, ordering_reverse}

module _ {K X : Type 0} (R : K → K → Ordering) (k : K) where
  -- the first i keys are below k
  abbrev pub AboveFirst : List (K × X) → ℕ → Type 0
  AboveFirst es zero = Unit {0}
  AboveFirst [] (suc i) = ⊥
  AboveFirst (e ∷ es) (suc i) = (R k e.0 ≡ Greater) × AboveFirst es i

  -- what k answers at place i, if there is one
  abbrev pub AnswersAt : List (K × X) → ℕ → Ordering → Type 0
  AnswersAt [] i r = Unit {0}
  AnswersAt (e ∷ es) zero r = R k e.0 ≡ r
  AnswersAt (e ∷ es) (suc i) r = AnswersAt es i r

  -- where place i has the key
  pub lookup_at : (es : List (K × X)) (i : ℕ) (d : K × X) → i < length es → AboveFirst es i → AnswersAt es i Equal
      → lookup (is_at (R k)) es ≡ Some (get_or es i d).1
  lookup_at [] i d lt above at = absurd (omega arith)
  lookup_at (e ∷ es) zero d lt above at = rw at refl
  lookup_at (e ∷ es) (suc i) d lt above at = rw above.0 (lookup_at es i d (omega arith) above.1 at)

  pub insert_at : (es : List (K × X)) (i : ℕ) (v : X) (d : K × X) → i < length es → AboveFirst es i
      → AnswersAt es i Equal → insert_entry R es k v ≡ set es i ((get_or es i d).0, v)
  insert_at [] i v d lt above at = absurd (omega arith)
  insert_at (e ∷ es) zero v d lt above at = rw at refl
  insert_at (e ∷ es) (suc i) v d lt above at = rw (above.0, insert_at es i v d (omega arith) above.1 at) refl

  pub remove_at : (es : List (K × X)) (i : ℕ) → i < length es → AboveFirst es i → AnswersAt es i Equal
      → remove_entry (is_at (R k)) es ≡ remove es i
  remove_at [] i lt above at = absurd (omega arith)
  remove_at (e ∷ es) zero lt above at = rw at refl
  remove_at (e ∷ es) (suc i) lt above at = rw (above.0, remove_at es i (omega arith) above.1 at) refl

  -- where no place has it, and it would go to place i
  pub insert_gap : (es : List (K × X)) (i : ℕ) (v : X) → i ≤ length es → AboveFirst es i → AnswersAt es i Less
      → insert_entry R es k v ≡ insert es i (k, v)
  insert_gap [] zero v le above at = refl
  insert_gap [] (suc i) v le above at = absurd above
  insert_gap (e ∷ es) zero v le above at = rw at refl
  insert_gap (e ∷ es) (suc i) v le above at = rw (above.0, insert_gap es i v (omega arith) above.1 at) refl

  remove_none : (es : List (K × X)) → NonePasses (is_at (R k)) es → remove_entry (is_at (R k)) es ≡ es
  remove_none [] none = refl
  remove_none (e ∷ es) none = rw (none.0, remove_none es none.1) refl

-- the same comparison from the other side
pub turned : {K : Type 0} {R : K → K → Ordering} → IsTotalOrder R → (k x : K) → R k x ≡ Greater → R x k ≡ Less
turned o k x h = o.antisymm x k ∙ ap ordering_reverse h

pub turned_less : {K : Type 0} {R : K → K → Ordering} → IsTotalOrder R → (k x : K) → R x k ≡ Less → R k x ≡ Greater
turned_less o k x h = o.antisymm k x ∙ ap ordering_reverse h

module _ {K X : Type 0} {R : K → K → Ordering} (o : IsTotalOrder R) (k : K) where
  none_at_gap : (es : List (K × X)) (i : ℕ) → IsStrictlySortedBy R (keys_of es) → AboveFirst R k es i
      → AnswersAt R k es i Less → NonePasses (is_at (R k)) es
  unfolding IsStrictlySortedBy
  none_at_gap [] i sorted above at = tt
  none_at_gap (e ∷ es) zero sorted above at = none_below_head o k e es sorted at
  none_at_gap (e ∷ es) (suc i) sorted above at = (ap is_eq above.0, none_at_gap es i sorted.1 above.1 at)

  pub lookup_gap : (es : List (K × X)) (i : ℕ) → IsStrictlySortedBy R (keys_of es) → AboveFirst R k es i
      → AnswersAt R k es i Less → lookup (is_at (R k)) es ≡ None
  lookup_gap es i sorted above at = lookup-none (is_at (R k)) es (none_at_gap es i sorted above at)

  pub remove_gap : (es : List (K × X)) (i : ℕ) → IsStrictlySortedBy R (keys_of es) → AboveFirst R k es i
      → AnswersAt R k es i Less → remove_entry (is_at (R k)) es ≡ es
  remove_gap es i sorted above at = remove_none R k es (none_at_gap es i sorted above at)

  -- ---- the order is kept

  abbrev Below : K → List (K × X) → Type 0
  Below x es = AllByRecursion (λ y. R x y ≡ Less) (keys_of es)

  below_insert : (x : K) (es : List (K × X)) (v : X) → R x k ≡ Less → Below x es → Below x (insert_entry R es k v)
  below_insert x [] v here all = (here, tt)
  below_insert x (e ∷ es) v here all = elim (R k e.0) as
      (λ r. Below x (match_ordering r ((k, v) ∷ e ∷ es) ((e.0, v) ∷ es) (e ∷ insert_entry R es k v)))
      [ Less ↦ (here, all) | Equal ↦ all | Greater ↦ (all.0, below_insert x es v here all.1) ]

  behind : (x y : K) (es : List (K × X)) → R x y ≡ Less → Below y es → Below x es
  behind x y [] less all = tt
  behind x y (e ∷ es) less all = (o.trans x y e.0 less all.0, behind x y es less all.1)

  sorted_insert_by : (e : K × X) (es : List (K × X)) (v : X) (r : Ordering) → R k e.0 ≡ r
      → IsStrictlySortedBy R (keys_of (e ∷ es)) → IsStrictlySortedBy R (keys_of (insert_entry R es k v))
      → IsStrictlySortedBy R (keys_of (match_ordering r ((k, v) ∷ e ∷ es) ((e.0, v) ∷ es) (e ∷ insert_entry R es k v)))
  unfolding IsStrictlySortedBy
  sorted_insert_by e es v Less h sorted rest = ((h, behind k e.0 es h sorted.0), sorted)
  sorted_insert_by e es v Equal h sorted rest = sorted
  sorted_insert_by e es v Greater h sorted rest = (below_insert e.0 es v (turned o k e.0 h) sorted.0, rest)

  pub sorted_insert : (es : List (K × X)) (v : X) → IsStrictlySortedBy R (keys_of es)
      → IsStrictlySortedBy R (keys_of (insert_entry R es k v))
  unfolding IsStrictlySortedBy
  sorted_insert [] v sorted = (tt, tt)
  sorted_insert (e ∷ es) v sorted = sorted_insert_by e es v (R k e.0) refl sorted (sorted_insert es v sorted.1)

module _ {K X : Type 0} (R : K → K → Ordering) (test : K → Bool) where
  below_remove : (x : K) (es : List (K × X)) → AllByRecursion (λ y. R x y ≡ Less) (keys_of es)
      → AllByRecursion (λ y. R x y ≡ Less) (keys_of (remove_entry test es))
  below_remove x [] all = tt
  below_remove x (e ∷ es) all = elim (test e.0) as
      (λ b. AllByRecursion (λ y. R x y ≡ Less) (keys_of (cond b es (e ∷ remove_entry test es))))
      [ true ↦ all.1 | false ↦ (all.0, below_remove x es all.1) ]

  pub sorted_remove : (es : List (K × X)) → IsStrictlySortedBy R (keys_of es)
      → IsStrictlySortedBy R (keys_of (remove_entry test es))
  unfolding IsStrictlySortedBy
  sorted_remove [] sorted = tt
  sorted_remove (e ∷ es) sorted = elim (test e.0) as
      (λ b. IsStrictlySortedBy R (keys_of (cond b es (e ∷ remove_entry test es))))
      [ true ↦ sorted.1 | false ↦ (below_remove e.0 es sorted.0, sorted_remove es sorted.1) ]

-- ---- what a look-up finds after an edit

module _ {X : Type 0} (v w : X) (rest : Option X) where
  -- two tests of which at most one passes may be made in either order
  swapped_tests : (a b : Bool) → (a ≡ true → b ≡ false)
      → cond a (Some w) (cond b (Some v) rest) ≡ cond b (Some v) (cond a (Some w) rest)
  swapped_tests true true apart = cc (apart refl)
  swapped_tests true false apart = refl
  swapped_tests false b apart = refl

  -- and one test made twice is made once
  same_test : (b : Bool) → cond b (Some v) rest ≡ cond b (Some v) (cond b (Some w) rest)
  same_test true = refl
  same_test false = refl

module _ {K X : Type 0} {R : K → K → Ordering} (o : IsTotalOrder R) (k : K) (v : X) (q : K) where
  ties_back : is_eq (R q k) ≡ is_eq (R k q)
  ties_back = (eq_by_cmp_equiv o).symm q k

  -- where q is the entry's key, which is below k, it isn't k
  apart : (e : K × X) → R k e.0 ≡ Greater → is_eq (R q e.0) ≡ true → is_eq (R k q) ≡ false
  apart e h at = ap is_eq (alike_right o q e.0 k ((Equal-is (R q e.0)).0 at) ∙ h)

  lookup_insert_by : (e : K × X) (es : List (K × X)) (r : Ordering) → R k e.0 ≡ r
      → lookup (is_at (R q)) (insert_entry R es k v) ≡ cond (is_eq (R k q)) (Some v) (lookup (is_at (R q)) es)
      → lookup (is_at (R q)) (match_ordering r ((k, v) ∷ e ∷ es) ((e.0, v) ∷ es) (e ∷ insert_entry R es k v))
      ≡ cond (is_eq (R k q)) (Some v) (lookup (is_at (R q)) (e ∷ es))
  lookup_insert_by e es Less h rest = rw ties_back refl
  lookup_insert_by e es Equal h rest =
      let same : is_eq (R q e.0) ≡ is_eq (R k q) = ap is_eq (sym (alike_right o k e.0 q h)) ∙ ties_back in
      rw same (same_test v e.1 (lookup (is_at (R q)) es) (is_eq (R k q)))
  lookup_insert_by e es Greater h rest =
      rw rest (swapped_tests v e.1 (lookup (is_at (R q)) es) (is_eq (R q e.0)) (is_eq (R k q)) (apart e h))

  pub lookup-insert_entry : (es : List (K × X)) → lookup (is_at (R q)) (insert_entry R es k v)
      ≡ cond (is_eq (R k q)) (Some v) (lookup (is_at (R q)) es)
  lookup-insert_entry [] = rw ties_back refl
  lookup-insert_entry (e ∷ es) = lookup_insert_by e es (R k e.0) refl (lookup-insert_entry es)
