-- The rows of a list in which a row was written over: what a loop over rows for writing cites.
use Rattle.ga_views.proofs.PartLemmas.{part-before, part-behind, part-within, refilled}
use Rattle.ga_views.proofs.RowLemmas.{length-row, length-rows, row-within, rows-dropped, rows-of_whole, rows-taken}
use Rattle.ga_views.specs.Parts.{part_set}
use Rattle.ga_views.specs.Rows.{chunk_count, chunk_rest, row_at, rows}
use Rattle.std.proofs.Common.{◌≡◌, ℕ, suc, ◌+◌, ◌*◌, ◌/◌, ◌<◌, ◌≤◌, List, ◌++◌, ◌∙◌, ap, arith, drop, get_or}
use Rattle.std.proofs.Common.{length, length-append, map, refl, sym, take}
use Rattle.std.proofs.lemmas.List.{append-nil, drop_all, drop_at, length-map, set-get_or, set_split, take-append-drop}
use Rattle.std.proofs.lemmas.List.{take_all, take_at}
use Rattle.std.proofs.lemmas.List.Edits.{map_over_more}
use Rattle.std.proofs.lemmas.List.FromFn.{get_or-map-range_with_len}
use Rattle.std.specs.List.{length_refill, refill}
use Rattle.std.specs.Prelude.{slice_set}

get_or-rows : {X : Type 0} (width : ℕ) (items : List X) (index : ℕ) (otherwise : List X)
    → index < chunk_count width items → get_or (rows width items) index otherwise ≡ row_at width items index
get_or-rows width items index otherwise below = get_or-map-range_with_len (row_at width items) 0
    (chunk_count width items) index index otherwise below (omega arith)

-- `after` is what stands once this row was written over that at the index
module _ {X : Type 0} (width : ℕ) (items row after : List X) (index : ℕ) (below : index < chunk_count width items)
    (long : length row ≡ width)
    (written : after ≡ refill (length items) items (part_set (index * width) width items row)) where
  within : index * width + width ≤ length items
  within = row-within (length items) width index below

  many : chunk_count width after ≡ chunk_count width items
  many = ap (λ n. n / width) (ap length written
      ∙ sym (length_refill (length items) items (part_set (index * width) width items row) refl))

  before : take index (rows width after) ≡ take index (rows width items)
  before = sym (rows-taken width index after (omega (arith, many, below)))
      ∙ (ap (rows width) (part-before (index * width) width items row after within written)
      ∙ rows-taken width index items (omega (arith, below)))

  here : get_or (rows width after) index row ≡ row
  here = get_or-rows width after index row (omega (arith, many, below))
      ∙ (part-within (index * width) width items row after within written
      ∙ sym (refilled width (row_at width items index) row (length-row width items index below) long))

  behind : drop (suc index) (rows width after) ≡ drop (suc index) (rows width items)
  behind =
      let place : suc index * width ≡ index * width + width = omega arith in
      let same = part-behind (index * width) width items row after within written in
      let dropped = rows-dropped width (suc index) in
      rw (← dropped after (omega (arith, many, below)), ← dropped items below, place, same) refl

  -- the rows are those that were, with this one at the index
  pub rows-set : rows width after ≡ slice_set (rows width items) index row
  rows-set =
      let same = set-get_or (rows width after) index row in
      let split = set_split (rows width after) index (get_or (rows width after) index row)
      (omega (arith, length-rows width after, many, below)) in
      let old = set_split (rows width items) index row (omega (arith, length-rows width items, below)) in
      cc (before, here, behind)

-- a loop that writes f of each row over it: what holds behind one row more, and behind all
module _ {X : Type 0} (f : List X → List X) (shown : List (List X)) (width : ℕ) (items : List X) (index : ℕ)
    (so_far : rows width items ≡ map f (take index shown) ++ drop index shown) where
  as_many : chunk_count width items ≡ length shown
  as_many = sym (length-rows width items) ∙ (ap length so_far ∙ simp (length-append, length-map)
      (sym (length-append (take index shown) (drop index shown)) ∙ ap length (take-append-drop index shown)))

  pub rows_mapped_more : (row after : List X) → index < chunk_count width items → row ≡ f (row_at width items index)
      → length row ≡ width → after ≡ refill (length items) items (part_set (index * width) width items row)
      → rows width after ≡ map f (take (index + 1) shown) ++ drop (index + 1) shown
  rows_mapped_more row after below made long written =
      let was = row_at width items index in
      rows-set width items row after index below long written
      ∙ (ap (slice_set (rows width items) index) made
      ∙ map_over_more f shown (rows width items) index was (omega (arith, as_many, below)) so_far
      (sym (get_or-rows width items index was below)))

  pub rows_mapped_all : chunk_count width items ≤ index → rows width items ≡ map f shown
  rows_mapped_all past =
      let enough : length shown ≤ index = omega (arith, as_many, past) in
      so_far ∙ rw (take_all index shown enough, drop_all index shown enough) (append-nil (map f shown))

-- items cut behind their whole rows: the rows are those of the first part, and the rest is the second
module _ {X : Type 0} (width : ℕ) (items whole rest : List X) (parts : whole ++ rest ≡ items)
    (full : length whole ≡ chunk_count width items * width) where
  pub rows-whole : rows width items ≡ rows width whole
  rows-whole = sym (rows-of_whole width items) ∙ ap (rows width) (rw (← full, ← parts) (take_at whole rest _ refl))

  chunk_rest-whole : chunk_rest width items ≡ rest
  chunk_rest-whole = rw (← full, ← parts) (drop_at whole rest _ refl)

-- so they are where as many items were written over the first part
module _ {X : Type 0} (width : ℕ) (items whole rest changed : List X) (parts : whole ++ rest ≡ items)
    (full : length whole ≡ chunk_count width items * width) (same : length changed ≡ length whole) where
  still_full : length changed ≡ chunk_count width (changed ++ rest) * width
  still_full =
      let as_long : length (changed ++ rest) ≡ length items =
      omega (arith, same, length-append changed rest, length-append whole rest, ap length parts) in
      same ∙ (full ∙ ap (λ n. n / width * width) (sym as_long))

  pub rows-whole_set : rows width (changed ++ rest) ≡ rows width changed
  rows-whole_set = rows-whole width (changed ++ rest) changed rest refl still_full

  pub chunk_rest-whole_set : chunk_rest width (changed ++ rest) ≡ chunk_rest width items
  chunk_rest-whole_set = chunk_rest-whole width (changed ++ rest) changed rest refl still_full
      ∙ sym (chunk_rest-whole width items whole rest parts full)

-- one row written over another: what a caller names by `using`
pub ruleset row_writes = (rows-set)
