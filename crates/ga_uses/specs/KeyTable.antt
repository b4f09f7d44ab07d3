-- A table of keys of one width, as the list of its entries: each the bytes of a key beside a value, in the keys' order.
use Rattle.std.specs.BTreeMap.{insert_entry, is_at}
use Rattle.std.specs.Cmp.Lexicographic.{slice_cmp}
use Rattle.std.specs.List.{insert, remove}
use Rattle.std.specs.List.Sorted.{IsStrictlySortedBy}
use Rattle.std.specs.Map.{keys_of, lookup, remove_entry}
use Rattle.std.specs.Ordering.{is_le, is_lt, nat_cmp}
use Rattle.std.specs.Prelude.{◌≡◌, ◌≢◌, ℕ, ◌<◌, ◌≤◌, ◌&&◌, List, None, Option, Some, filter, length, slice_index_or}
use Rattle.std.specs.Prelude.{slice_set}
use Rattle.std.specs.declared.cmp.Ordering.{Ordering}

-- the order of keys: the first byte that differs decides
abbrev pub key_order : List ℕ → List ℕ → Ordering
key_order = slice_cmp nat_cmp

module _ {V : Type 0} where
  -- the keys ascend, so no key comes twice
  abbrev pub IsInKeyOrder : List (List ℕ × V) → Type 0
  IsInKeyOrder entries = IsStrictlySortedBy key_order (keys_of entries)

  -- the value beside the key
  abbrev pub value_at : List (List ℕ × V) → List ℕ → Option V
  value_at entries key = lookup (is_at (key_order key)) entries

  -- the entries with the value at the key: in the place of the old one, or at the key's place in the order
  abbrev pub with_entry : List (List ℕ × V) → List ℕ → V → List (List ℕ × V)
  with_entry entries key value = insert_entry key_order entries key value

  -- the entries without the key's
  abbrev pub without_key : List (List ℕ × V) → List ℕ → List (List ℕ × V)
  without_key entries key = remove_entry (is_at (key_order key)) entries

  -- the entries whose keys are at least `from` and below `to`
  abbrev pub entries_from_to : List (List ℕ × V) → List ℕ → List ℕ → List (List ℕ × V)
  entries_from_to entries from to = filter (λ e. is_le (key_order from e.0) && is_lt (key_order e.0 to)) entries

  -- the value at the key becomes this one, or none, and every other key keeps what it has
  abbrev pub ChangesKey : List (List ℕ × V) → List (List ℕ × V) → List ℕ → Option V → Type 0
  ChangesKey old new key value = (value_at new key ≡ value)
      × ((other : List ℕ) → other ≢ key → value_at new other ≡ value_at old other)

  -- place i has the key: what a look-up, a write and a removal at the key come to
  pub record HasKeyAt (entries : List (List ℕ × V)) (key : List ℕ) (i : ℕ) : Type 0 where
    pub in_range : i < length entries
    pub value : (d : List ℕ × V) → value_at entries key ≡ Some (slice_index_or entries i d).1
    pub written : (value : V) (d : List ℕ × V) → with_entry entries key value
        ≡ slice_set entries i ((slice_index_or entries i d).0, value)
    pub removed : without_key entries key ≡ remove entries i

  -- no place has the key, which would go to place i
  pub record IsGapFor (entries : List (List ℕ × V)) (key : List ℕ) (i : ℕ) : Type 0 where
    pub in_range : i ≤ length entries
    pub no_value : value_at entries key ≡ None
    pub inserted : (value : V) → with_entry entries key value ≡ insert entries i (key, value)
    pub removed : without_key entries key ≡ entries
