-- A list cut into rows of one width, and the rest that fills no row.
use Rattle.std.specs.List.{range_with_len}
use Rattle.std.specs.Prelude.{ℕ, ◌*◌, ◌/◌, List, drop, length, map, take}

module _ {X : Type 0} (width : ℕ) (items : List X) where
  -- how many whole rows there are; none of width 0
  abbrev pub chunk_count : ℕ
  chunk_count = length items / width

  -- row r: the `width` items from place r * width on
  abbrev pub row_at : ℕ → List X
  row_at r = take width (drop (r * width) items)

  -- the whole rows, in order
  abbrev pub rows : List (List X)
  rows = map row_at (range_with_len 0 chunk_count)

  -- what follows them
  abbrev pub chunk_rest : List X
  chunk_rest = drop (chunk_count * width) items
