-- Rows from both ends, and the rows of the items that fill them: what a walk over rows and a cut behind them cite.
use Rattle.ga_views.specs.Rows.{chunk_count, chunk_rest, row_at, rows}
use Rattle.std.proofs.Common.{◌≡◌, ℕ, zero, suc, ◌+◌, ◌-◌, ◌*◌, ◌/◌, ◌<◌, ◌≤◌, List, [], ◌∷◌, ◌++◌, None, Some, map}
use Rattle.std.proofs.Common.{length, min, take, drop, reverse, refl, sym, subst, ap, ◌∙◌, arith, length-append, length-drop}
use Rattle.std.proofs.Common.{slice_get}
use Rattle.std.proofs.Math.Nat.{div-eq-sub-div, div-eq_of_lt, div-mul-le_self, div-zero, mul-div_cancel}
use Rattle.std.proofs.Math.Nat.{mul-le-mul_right, mul-sub, zero-div}
use Rattle.std.proofs.lemmas.Iterator.{YieldsList}
use Rattle.std.proofs.lemmas.Iterator.Consumers.{YieldsList-from_shown}
use Rattle.std.proofs.lemmas.List.{drop-drop, drop-take, length-reverse, length-take-le, reverse-append, take-take, take_all}
use Rattle.std.proofs.lemmas.List.FromFn.{get_or-map-range_with_len, length-map-range_with_len, map-range_with_len_more}
use Rattle.std.proofs.lemmas.List.FromFn.{take-map-range_with_len}
use Rattle.std.proofs.lemmas.Option.{slice_get_past, slice_get_read}
use Rattle.std.specs.Iterator.{YieldsLastBy}
use Rattle.std.specs.Iterator.Adapters.{rev_source, rev_steps}
use Rattle.std.specs.List.{range_with_len}

-- items that fill so many rows leave no rest
pub whole_by : (count width len : ℕ) → len ≡ count * width → len ≡ len / width * width
whole_by count zero len fills = omega arith
whole_by count (suc width) len fills =
    let same : len / suc width ≡ count = ap (λ n. n / suc width) fills ∙ mul-div_cancel count (omega arith) in
    fills ∙ ap (λ n. n * suc width) (sym same)

-- where there is a row, the width isn't 0
wide_by : (len width k : ℕ) → suc k ≤ len / width → 0 < width
wide_by len zero k within = absurd (omega (arith, within, div-zero len))
wide_by len (suc width) k within = omega arith

-- a whole row ends within the items
pub row-within : (len width index : ℕ) → index < len / width → index * width + width ≤ len
row-within len width index below = omega (arith, mul-le-mul_right width below, div-mul-le_self len width)

module _ {X : Type 0} (width : ℕ) (items : List X) where
  -- a row of the items after the first row is one row further on in all
  row_shifted : (r : ℕ) → row_at width items (r + 1) ≡ row_at width (drop width items) r
  row_shifted r =
      let places : (r + 1) * width ≡ width + r * width = omega arith in
      ap (take width) (ap (λ k. drop k items) places ∙ sym (drop-drop (r * width) width items))

  rows_shifted : (a n : ℕ) → map (row_at width items) (range_with_len (a + 1) n)
      ≡ map (row_at width (drop width items)) (range_with_len a n)
  rows_shifted a zero = refl
  rows_shifted a (suc n) = let first = row_shifted a in let others = rows_shifted (a + 1) n in cc

  module _ (wide : 0 < width) (enough : width ≤ length items) where
    -- the first row is one of them, and the others are those of what follows it
    count-step : chunk_count width items ≡ suc (chunk_count width (drop width items))
    count-step =
        let after : length (drop width items) ≡ length items - width = length-drop width items in
        let one_less : length items / width ≡ (length items - width) / width + 1 = div-eq-sub-div wide enough in
        let same : length (drop width items) / width ≡ (length items - width) / width = ap (λ n. n / width) after in
        omega arith

    pub rows-first : rows width items ≡ take width items ∷ rows width (drop width items)
    rows-first =
        let none : 0 * width ≡ 0 = omega arith in
        rw (count-step, none) (ap (λ others. take width items ∷ others) (rows_shifted 0 _))

    pub chunk_rest-first : chunk_rest width items ≡ chunk_rest width (drop width items)
    chunk_rest-first =
        let count = chunk_count width (drop width items) in
        let places : suc count * width ≡ width + count * width = omega arith in
        rw (count-step, places, drop-drop (count * width) width items) refl

  module _ (few : length items < width) where
    none : chunk_count width items ≡ 0
    none = div-eq_of_lt few

    -- fewer items than a row takes are all rest
    pub rows-few : rows width items ≡ []
    rows-few = ap (λ n. map (row_at width items) (range_with_len 0 n)) none

    pub chunk_rest-few : chunk_rest width items ≡ items
    chunk_rest-few = let start : 0 * width ≡ 0 = omega arith in rw (none, start) refl

  -- how many rows there are
  pub length-rows : length (rows width items) ≡ chunk_count width items
  length-rows = length-map-range_with_len (row_at width items) 0 (chunk_count width items)

  -- the row at an index; there is none from their number on
  pub slice_get-rows : (r : ℕ) → r < chunk_count width items
      → slice_get (rows width items) r ≡ Some (row_at width items r)
  slice_get-rows r below =
      let count = chunk_count width items in
      slice_get_read (rows width items) count r (row_at width items r) (sym length-rows) below
      (sym (get_or-map-range_with_len (row_at width items) 0 count r r (row_at width items r) below (omega arith)))

  pub slice_get-rows_past : (r : ℕ) → chunk_count width items ≤ r → slice_get (rows width items) r ≡ None
  slice_get-rows_past r past = slice_get_past (rows width items) r (omega (arith, length-rows))

  -- a row that lies in the first items is a row of all
  row-kept : (r count : ℕ) → r < count → row_at width (take (count * width) items) r ≡ row_at width items r
  row-kept r count below =
      let more = count * width - r * width in
      let enough : width + r * width ≤ count * width = omega (arith, mul-le-mul_right width below) in
      let places : count * width ≡ r * width + more = omega arith in
      rw (places, drop-take (r * width) more items) (take-take width more (drop (r * width) items) (omega arith))

  -- and so are those from row a on
  rows-kept : (a n count : ℕ) → a + n ≤ count → map (row_at width (take (count * width) items)) (range_with_len a n)
      ≡ map (row_at width items) (range_with_len a n)
  rows-kept a zero count _ = refl
  rows-kept a (suc n) count within =
      let first = row-kept a count (omega arith) in
      let others = rows-kept (a + 1) n count (omega arith) in
      cc

  pub length-row : (index : ℕ) → index < chunk_count width items → length (row_at width items index) ≡ width
  length-row index below = length-take-le width (drop (index * width) items)
      (omega (arith, length-drop (index * width) items, row-within (length items) width index below))

module _ {X : Type 0} (width : ℕ) where
  -- the rows behind the first k
  pub rows-dropped : (k : ℕ) (items : List X) → k ≤ chunk_count width items
      → rows width (drop (k * width) items) ≡ drop k (rows width items)
  rows-dropped zero items within = let none : 0 * width ≡ 0 = omega arith in ap (λ n. rows width (drop n items)) none
  rows-dropped (suc k) items within =
      let wide = wide_by (length items) width k within in
      let enough : width ≤ length items = omega (arith, row-within (length items) width k within) in
      let first = rows-first width items wide enough in
      let left : k ≤ chunk_count width (drop width items) =
      omega (arith, within, ap length first, length-rows width items, length-rows width (drop width items)) in
      let place : suc k * width ≡ width + k * width = omega arith in
      rw (place, ← drop-drop (k * width) width items, rows-dropped k (drop width items) left, first) refl

  -- the rows of the items of the first k rows
  pub rows-taken : (k : ℕ) (items : List X) → k ≤ chunk_count width items
      → rows width (take (k * width) items) ≡ take k (rows width items)
  rows-taken zero items within = let none : 0 * width ≡ 0 = omega arith in rw (none, zero-div width) refl
  rows-taken (suc k) items within =
      let first_rows = take (suc k * width) items in
      let long : length first_rows ≡ suc k * width =
      length-take-le (suc k * width) items (omega (arith, row-within (length items) width k within)) in
      rw (long, mul-div_cancel (suc k) (wide_by (length items) width k within))
      (rows-kept width items 0 (suc k) (suc k) (omega arith)
      ∙ sym (take-map-range_with_len (row_at width items) 0 (chunk_count width items) (suc k) within))

  -- the rows of the items that lie in whole rows are the rows of all
  pub rows-of_whole : (items : List X) → rows width (take (chunk_count width items * width) items) ≡ rows width items
  rows-of_whole items = rows-taken (chunk_count width items) items (omega arith)
      ∙ take_all (chunk_count width items) (rows width items) (omega (arith, length-rows width items))

-- a cut behind the first k rows or before the last k, where the rows are those of a list and fill n items
module _ {X : Type 0} (width : ℕ) (items : List X) (left : List (List X)) (shown : rows width items ≡ left) (k n : ℕ)
    (within : k ≤ length left) (fill : n ≡ k * width) where
  some : k ≤ chunk_count width items
  some = omega (arith, within, length-rows width items, ap length shown)

  pub items-within : n ≤ length items
  items-within = omega (arith, fill, mul-le-mul_right width some, div-mul-le_self (length items) width)

  module _ (whole : length items ≡ chunk_count width items * width) where
    fewer : length items - n ≡ (chunk_count width items - k) * width
    fewer = omega (arith, whole, fill, mul-sub width (chunk_count width items) k)

    -- the other items leave no rest either, and their rows are the others
    pub passed-front : let others = drop n items in
        (length others ≡ chunk_count width others * width) × (rows width others ≡ drop k left)
    passed-front = (
      whole_by (chunk_count width items - k) width (length (drop n items)) (length-drop n items ∙ fewer),
      ap (λ m. rows width (drop m items)) fill ∙ (rows-dropped width k items some ∙ ap (drop k) shown),
    )

    pub passed-back : let others = take (length items - n) items in
        (length others ≡ chunk_count width others * width) × (rows width others ≡ take (length left - k) left)
    passed-back = (
      whole_by (chunk_count width items - k) width (length (take (length items - n) items))
          (length-take-le (length items - n) items (omega arith) ∙ fewer),
      ap (λ m. rows width (take m items)) fewer
          ∙ (rows-taken width (chunk_count width items - k) items (omega arith) ∙ rw (← shown, length-rows) refl),
    )

-- a cut that passes over n rows, or over all where there are no more
module _ {X : Type 0} {width passed many size : ℕ} {left : List (List X)} (items : List X) (n : ℕ)
    (shown : rows width items ≡ left) (count : passed ≡ min n many) (counted : many ≡ length left) (wide : size ≡ width) where
  least : passed ≤ length left
  least = omega arith

  fill : passed * size ≡ passed * width
  fill = ap (λ w. passed * w) wide

  pub passed-items : passed * size ≤ length items
  passed-items = items-within width items left shown passed (passed * size) least fill

  module _ (whole : length items ≡ chunk_count width items * width) where
    pub passed-first : let others = drop (passed * size) items in
        (length others ≡ chunk_count width others * width) × (rows width others ≡ drop passed left)
    passed-first = passed-front width items left shown passed (passed * size) least fill whole

    pub passed-last : let others = take (length items - passed * size) items in
        (length others ≡ chunk_count width others * width) × (rows width others ≡ take (length left - passed) left)
    passed-last = passed-back width items left shown passed (passed * size) least fill whole

-- a row that is split off items which leave no rest: the other items leave none either, and their rows are fewer
module _ {X : Type 0} (width : ℕ) (items : List X) (whole : length items ≡ chunk_count width items * width)
    (held : (0 < width) × (width ≤ length items)) where
  one : width ≡ 1 * width
  one = omega arith

  some_row : 1 ≤ length (rows width items)
  some_row = omega (arith, count-step width items held.0 held.1, length-rows width items)

  -- at the front it is the first row
  pub first-split : let others = drop width items in (rows width items ≡ take width items ∷ rows width others)
      × (length others ≡ chunk_count width others * width) × (length (rows width others) < length (rows width items))
  first-split =
      let told = rows-first width items held.0 held.1 in
      (told, (passed-front width items (rows width items) refl 1 width some_row one whole).0, omega (arith, ap length told))

  -- and at the back the last
  pub last-split : let others = take (length items - width) items in
      (rows width items ≡ rows width others ++ drop (length items - width) items ∷ [])
      × (length others ≡ chunk_count width others * width) × (length (rows width others) < length (rows width items))
  last-split =
      let before = length items - width in
      let last = chunk_count width items - 1 in
      let all : chunk_count width items ≡ last + 1 = omega (arith, count-step width items held.0 held.1) in
      let place : before ≡ last * width = fewer width items (rows width items) refl 1 width some_row one whole in
      let row : row_at width items last ≡ drop before items =
      ap (λ n. take width (drop n items)) (sym place)
      ∙ take_all width (drop before items) (omega (arith, length-drop before items)) in
      let back = passed-back width items (rows width items) refl 1 width some_row one whole in
      let first = take-map-range_with_len (row_at width items) 0 (chunk_count width items) last (omega (arith, all)) in
      let more = map-range_with_len_more (row_at width items) 0 last last (omega arith) in
      let fewest : length (rows width items) - 1 ≡ last = ap (λ n. n - 1) (length-rows width items) in
      let told : rows width items ≡ rows width (take before items) ++ drop before items ∷ [] =
      ap (λ n. map (row_at width items) (range_with_len 0 n)) all ∙ (more ∙ cc (back.1, fewest, first, row)) in
      (told, back.0, omega (arith, ap length told, length-append (rows width (take before items)) (drop before items ∷ [])))

-- what `rev` yields of an iterator that is a list, as one over rows is: for searches from the back
pub YieldsList-from_last : {A B : Type 0} (value : A → B) {source : _} (items : List B) → rev_source source ≡ items
    → YieldsList (rev_steps (YieldsLastBy value (λ (left : List B). left))) value source (reverse items)
YieldsList-from_last {A} {B} value {source} items shows =
    let steps = rev_steps (YieldsLastBy value (λ (left : List B). left)) in
    subst (λ list. YieldsList steps value source (reverse list)) shows
    (YieldsList-from_shown steps value (λ state. reverse (rev_source state))
    (λ state next ends. length-reverse _ ∙ ap length ends.0)
    (λ state item next step. ap reverse step ∙ reverse-append (rev_source next) (value item ∷ [])) source)

-- how many rows there are, which there is at an index, and that it ends within the items
pub ruleset row_facts = (length-rows, rows-few, row-within, slice_get-rows, slice_get-rows_past)

-- a cut at the end of the whole rows
pub ruleset cut_facts = (length-rows, rows-of_whole, whole_by, div-mul-le_self)
