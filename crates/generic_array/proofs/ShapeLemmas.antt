-- Items taken out of a list, and rows of it joined and cut.
use Rattle.std.proofs.Common.{◌≡◌, ℕ, zero, suc, ◌+◌, ◌*◌, ◌/◌, ◌<◌, List, [], ◌∷◌, ◌++◌, take, drop, ap, ◌∙◌, sym}
use Rattle.std.proofs.Common.{refl, arith, get_or, length, length-append, length-drop, map, Some, slice_get}
use Rattle.std.proofs.lemmas.Option.{slice_get_read}
use Rattle.ga_core.proofs.RowLemmas.{rows-few, rows-first}
use Rattle.generic_array.specs.Rows.{row_at, rows}
use Rattle.std.proofs.Math.Nat.{suc-mul}
use Rattle.std.proofs.lemmas.List.{drop_at, nil_from_length, same_from_push, take-append-drop, take_all, take_at}
use Rattle.std.proofs.lemmas.Nat.{div-mul-add}
use Rattle.std.proofs.lemmas.List.Elements.{All-head, All-tail}
use Rattle.std.proofs.lemmas.List.Folds.{flat_map-map}
use Rattle.std.specs.List.{All, flat_map, range_with_len}

module _ {T : Type 0} where
  -- as many as there are
  pub all-taken : (n : ℕ) (items array : List T) → items ≡ array → n ≡ length array → take n items ≡ array
  all-taken n items array same long = rw same (take_all n array (omega (arith, long)))

  -- an item that was carried to the end was taken, and the others are left
  pub taken-at_end : (array carried others left : List T) (index m : ℕ) (item : T) → index < length array
      → length carried ≡ m + 1 → carried ≡ others ++ get_or array index item ∷ [] → carried ≡ left ++ item ∷ []
      → (slice_get array index ≡ Some item) × (take m left ≡ others)
  taken-at_end array carried others left index m item inside long order taken =
      let both = same_from_push left others item (get_or array index item) (sym taken ∙ order) in
      let here : length left ≡ m = omega (arith, long, ap length taken, length-append left (item ∷ [])) in
      (slice_get_read array (length array) index item refl inside both.1, take_all m left (omega (arith, here)) ∙ both.0)

  -- where nothing is left of a row, what follows begins with the next row
  pub rows-begun : (begun row now : List T) (these left : List (List T)) (whole : List T) → length begun ≡ 0
      → these ≡ row ∷ left → now ≡ row
      → begun ++ flat_map (λ r. r) these ≡ whole → now ++ flat_map (λ r. r) left ≡ whole
  rows-begun begun row now these left whole none first starts same =
      rw starts (rw (nil_from_length begun none, first) at same)

  -- where the items fill the rows, these are all
  pub map-row_at : (w r : ℕ) (items : List T) → 0 < w → length items ≡ r * w
      → map (row_at w items) (range_with_len 0 r) ≡ rows w items
  map-row_at w r items some whole =
      let count : length items / w ≡ r = ap (λ n. n / w) (omega (arith, whole)) ∙ div-mul-add r w 0 some in
      ap (λ n. map (row_at w items) (range_with_len 0 n)) (sym count)

module _ {X : Type 0} (width : ℕ) (some : 0 < width) where
  -- rows joined, and cut again
  pub rows-of_joined : (all : List (List X)) → All (λ row. length row ≡ width) all
      → rows width (flat_map (λ row. row) all) ≡ all
  rows-of_joined [] wide = rows-few width [] some
  rows-of_joined (row ∷ others) wide =
      let long = All-head (λ r. length r ≡ width) row others wide in
      let rest = flat_map (λ r. r) others in
      rows-first width (row ++ rest) some (omega (arith, length-append row rest, long)) ∙ rw (
        take_at row rest width long,
        drop_at row rest width long,
        rows-of_joined others (All-tail (λ r. length r ≡ width) row others wide),
      )

  -- items cut into rows, and joined again
  pub joined-of_rows : (count : ℕ) (items : List X) → length items ≡ count * width
      → flat_map (λ row. row) (rows width items) ≡ items
  joined-of_rows zero items whole =
      rw (nil_from_length items (omega (arith, whole)), rows-few width [] some)
  joined-of_rows (suc count) items whole =
      let more = suc-mul count width in
      let left : length (drop width items) ≡ count * width = omega (arith, whole, more, length-drop width items) in
      rw (rows-first width items some (omega (arith, whole, more)), joined-of_rows count (drop width items) left)
      (take-append-drop width items)

-- what a function makes of each item, joined, is all that it makes as rows, joined
pub flat_map_by_rows : {X T : Type 0} (f : X → List T) (xs : List X)
    → flat_map f xs ≡ flat_map (λ (row : List T). row) (map f xs)
flat_map_by_rows f xs = sym (flat_map-map (λ row. row) f xs)
