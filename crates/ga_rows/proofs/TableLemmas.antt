-- The table of decimal texts, held against `decimal` at each of its places by computing.
use Rattle.ga_rows.specs.declared.buffer.decimal.TheConstants.{DIGITS, TEXTS}
use Rattle.std.proofs.Common.{◌≡◌, ℕ, zero, suc, ◌<◌, Bool, true, ◌&&◌, List, [], decimal, get_or, nat_lt, refl, take}
use Rattle.std.proofs.lemmas.Bool.Decides.{Decides-and, Decides-below_and, Decides-ltb}
use Rattle.std.proofs.lemmas.Slice.Eq.{bytes_eq-Decides}
use Rattle.std.specs.Fmt.{digits}
use Rattle.std.specs.Str.{bytes_eq}

module _ (texts : List (List ℕ)) (counts : List ℕ) where
  -- whether the text at a place begins with the digits of that place, as many as are counted there
  abbrev is_entry : ℕ → Bool
  is_entry k = bytes_eq (take (get_or counts k 0) (get_or texts k [])) (decimal k) && nat_lt (get_or counts k 0) 4

  abbrev are_entries_below : ℕ → Bool
  are_entries_below zero = true
  are_entries_below (suc k) = is_entry k && are_entries_below k

  entry-at : (n : ℕ) → are_entries_below n ≡ true → (k : ℕ) → k < n
      → (take (get_or counts k 0) (get_or texts k []) ≡ decimal k) × (get_or counts k 0 < 4)
  entry-at n all =
      (Decides-below_and is_entry (λ k. (take (get_or counts k 0) (get_or texts k []) ≡ decimal k)
      × (get_or counts k 0 < 4)) are_entries_below
      (λ k. Decides-and _ _ (bytes_eq-Decides _ _) (Decides-ltb _ 4)) refl (λ _. refl) n).0 all

all_entries : are_entries_below TEXTS DIGITS 256 ≡ true
unfolding digits
all_entries = refl

-- each text of the table begins with the digits of its place, as many as are counted there
pub table-at : (k : ℕ) → k < 256 → (take (get_or DIGITS k 0) (get_or TEXTS k []) ≡ decimal k) × (get_or DIGITS k 0 < 4)
table-at k below = entry-at TEXTS DIGITS 256 all_entries k below
