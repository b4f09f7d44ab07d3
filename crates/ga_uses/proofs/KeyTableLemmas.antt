-- What a search in a table of keys finds, and what an edit at that place does.
use Rattle.ga_uses.proofs.EntryLemmas.{insert_at, insert_gap, lookup-insert_entry, lookup_at, lookup_gap, remove_at}
use Rattle.ga_uses.proofs.EntryLemmas.{remove_gap, sorted_insert, sorted_remove}
use Rattle.ga_uses.proofs.SearchLemmas.{above_at, above_from, answers_from, filter_between, from_not_less, rises}
use Rattle.ga_uses.specs.KeyTable.{ChangesKey, HasKeyAt, IsGapFor, IsInKeyOrder, entries_from_to, key_order, with_entry}
use Rattle.ga_uses.specs.KeyTable.{without_key}
use Rattle.std.proofs.lemmas.Bool.{false_from_ne_true}
use Rattle.std.proofs.lemmas.Cmp.{eq_by_cmp_equiv, nat_list_cmp_total, tied_itself}
use Rattle.std.proofs.lemmas.Map.{lookup-remove_entry}
use Rattle.std.proofs.lemmas.Map.Keys.{IsDistinct-from_sorted}
use Rattle.std.proofs.lemmas.Map.Lookups.{exact_bytes}
use Rattle.std.proofs.Math.Bool.{and-false}
use Rattle.std.proofs.Common.{◌≡◌, ℕ, ◌-◌, ◌≤◌, Bool, true, false, ◌&&◌, min, cond, List, [], length, get_or, set, Some}
use Rattle.std.proofs.Common.{None, Result, Ok, Err, IfOk, IfErr, refl, sym, ◌∙◌, ap, subst, arith, slice_range, insert}
use Rattle.std.proofs.Common.{remove}
use Rattle.std.specs.BTreeMap.{is_at}
use Rattle.std.specs.Cmp.{Equal-is}
use Rattle.std.specs.List.Sorted.{IsStrictlySortedBy, IsSearchInRange, IsBinarySearchResult, IsPartitionPoint}
use Rattle.std.specs.Map.{keys_of}
use Rattle.std.specs.Ordering.{eq_by_cmp, is_eq, is_le, is_lt}

module _ {V : Type 0} (es : List (List ℕ × V)) (sorted : IsInKeyOrder es) where
  -- a binary search ends at the key, or at the place where it would go
  pub searched : (key : List ℕ) (r : Result ℕ ℕ) → IsSearchInRange r (length es)
      → IsBinarySearchResult (λ e. key_order e.0 key) es r
      → record { found : IfOk r (HasKeyAt es key); absent : IfErr r (IsGapFor es key) }
  searched key (Ok i) lt equal =
      let at = above_at nat_list_cmp_total key es i lt sorted equal in
      record {
        found = record {
          in_range = lt;
          value = λ d. lookup_at key_order key es i d lt at.0 at.1;
          written = λ v d. insert_at key_order key es i v d lt at.0 at.1;
          removed = remove_at key_order key es i lt at.0 at.1;
        };
        absent = tt;
      }
  searched key (Err i) le split =
      let sides = split (rises nat_list_cmp_total key es sorted) in
      let above = above_from nat_list_cmp_total key es i le sides.0 in
      let at = answers_from nat_list_cmp_total key es i sides.1 in
      record {
        found = tt;
        absent = record {
          in_range = le;
          no_value = lookup_gap nat_list_cmp_total key es i sorted above at;
          inserted = λ v. insert_gap key_order key es i v le above at;
          removed = remove_gap nat_list_cmp_total key es i sorted above at;
        };
      }

  -- where two searches by the bounds end, the entries between them stand
  pub ranged : (from to : List ℕ) (s t : ℕ) → s ≤ length es → t ≤ length es
      → IsPartitionPoint (λ e. is_lt (key_order e.0 from) ≡ true) (λ e. is_lt (key_order e.0 from) ≡ false) es s
      → IsPartitionPoint (λ e. is_lt (key_order e.0 to) ≡ true) (λ e. is_lt (key_order e.0 to) ≡ false) es t
      → entries_from_to es from to ≡ slice_range es (min s t) t
  ranged from to s t ls lt first second =
      filter_between _ es (min s t) (t - min s t) (omega arith)
      (λ j d low high. ap (λ test. test && below (get_or es j d)) (from_not_less nat_list_cmp_total from
      (get_or es j d).0 true (first.0 j d low (omega (arith, high)))))
      (λ j d low high. ap (λ test. test && below (get_or es j d)) (from_not_less nat_list_cmp_total from
      (get_or es j d).0 false (first.1 j d (omega (arith, low, high)) (omega (arith, low, high))))
      ∙ second.0 j d (omega arith) (omega (arith, low, high)))
      (λ j d low high. ap (λ test. is_le (key_order from (get_or es j d).0) && test)
      (second.1 j d (omega (arith, low)) high) ∙ and-false _)
    where
      -- whether a key is below the second bound
      below : List ℕ × V → Bool
      below e = is_lt (key_order e.0 to)

-- ---- the edits keep the order

pub sorted_empty : (V : Type 0) → IsInKeyOrder {V = V} []
unfolding IsStrictlySortedBy
sorted_empty V = tt

module _ {V : Type 0} (es : List (List ℕ × V)) (sorted : IsInKeyOrder es) (key : List ℕ) (i : ℕ) where
  -- e is the entry that was there
  pub sorted_written : HasKeyAt es key i → (e : List ℕ × V) (v : V) → e ≡ get_or es i e
      → IsInKeyOrder (set es i (e.0, v))
  sorted_written has e v is = rw (is, ← has.written v e) (sorted_insert nat_list_cmp_total key es v sorted)

  -- b is whether there was memory
  pub sorted_inserted : IsGapFor es key i → (v : V) (b : Bool) → IsInKeyOrder (cond b (insert es i (key, v)) es)
  sorted_inserted gap v true = subst IsInKeyOrder (gap.inserted v) (sorted_insert nat_list_cmp_total key es v sorted)
  sorted_inserted gap v false = sorted

  pub sorted_removed : HasKeyAt es key i → IsInKeyOrder (remove es i)
  sorted_removed has = subst IsInKeyOrder has.removed (sorted_remove key_order (is_at (key_order key)) es sorted)

-- ---- and change one key alone

-- keys that differ don't tie
unlike : (x y : List ℕ) → (y ≡ x → ⊥) → is_eq (key_order x y) ≡ false
unlike x y differ = false_from_ne_true _
    (λ same. differ (sym (exact_bytes x y ((Equal-is (key_order x y)).0 same))))

module _ {V : Type 0} (es : List (List ℕ × V)) (key : List ℕ) where
  pub changes-with_entry : (value : V) → ChangesKey es (with_entry es key value) key (Some value)
  changes-with_entry value = (
    rw (lookup-insert_entry nat_list_cmp_total key value key es, tied_itself nat_list_cmp_total key) refl,
    λ other differ.
        rw (lookup-insert_entry nat_list_cmp_total key value other es, unlike key other differ) refl,
  )

  pub changes-without_key : IsInKeyOrder es → ChangesKey es (without_key es key) key None
  changes-without_key sorted =
      let taken = λ (q : List ℕ). lookup-remove_entry {eq = eq_by_cmp key_order} (eq_by_cmp_equiv nat_list_cmp_total)
      (is_at (key_order key)) (λ x y h. ap is_eq (nat_list_cmp_total.congr key x y ((Equal-is (key_order key x)).0 h))) q es
      (IsDistinct-from_sorted key_order (keys_of es) sorted) in (
        rw (taken key, tied_itself nat_list_cmp_total key) refl,
        λ other differ. rw (taken other, unlike key other differ) refl,
      )
