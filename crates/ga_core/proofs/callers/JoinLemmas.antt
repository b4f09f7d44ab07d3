-- Lists by rows: a row in front of other items, an induction over rows, and the rows of joined lists.
use Rattle.ga_views.proofs.RowLemmas.{chunk_rest-few, chunk_rest-first, rows-few, rows-first}
use Rattle.ga_views.specs.Rows.{chunk_rest, rows}
use Rattle.std.proofs.Common.{◌≡◌, ℕ, zero, suc, ◌+◌, ◌<◌, ◌≤◌, List, ◌∷◌, ◌++◌, length, take, drop, refl, sym, ap, ◌∙◌}
use Rattle.std.proofs.Common.{append_assoc, arith, subst, inl, inr, length-append, length-drop}
use Rattle.std.proofs.lemmas.Bool.{cases_lt}
use Rattle.std.proofs.lemmas.List.{drop_at, length-take-le, take-append-drop, take_at}

module _ {X : Type 0} (width : ℕ) (some : 0 < width) where
  -- a row, and what follows it
  module _ (row others all : List X) (joined : row ++ others ≡ all) (full : length row ≡ width) where
    enough : width ≤ length (row ++ others)
    enough = omega (arith, length-append row others)

    -- the rows of items appended to a row
    pub rows-behind : rows width all ≡ row ∷ rows width others
    rows-behind = rw (
      ← joined,
      rows-first width (row ++ others) some enough,
      take_at row others width full,
      drop_at row others width full,
    ) refl

    -- and what follows them
    pub chunk_rest-behind : chunk_rest width all ≡ chunk_rest width others
    chunk_rest-behind =
        rw (← joined, chunk_rest-first width (row ++ others) some enough, drop_at row others width full) refl

  -- a row that is begun, filled by the front of what is appended
  module _ (begun front more : List X) (full : length begun + length front ≡ width) where
    filled : length (begun ++ front) ≡ width
    filled = length-append begun front ∙ full

    pub rows-filled : rows width (begun ++ (front ++ more)) ≡ (begun ++ front) ∷ rows width more
    rows-filled = rows-behind (begun ++ front) more (begun ++ (front ++ more)) (append_assoc begun front more) filled

    -- and what follows it
    pub chunk_rest-filled : chunk_rest width (begun ++ (front ++ more)) ≡ chunk_rest width more
    chunk_rest-filled = chunk_rest-behind (begun ++ front) more (begun ++ (front ++ more))
        (append_assoc begun front more) filled

  -- what holds of fewer items than a row takes, and of a row in front of items of which it holds, holds of all
  module _ (P : List X → Type 0) (few : (items : List X) → length items < width → P items)
      (more : (row others : List X) → length row ≡ width → P others → P (row ++ others)) where
    by_rows_within : (fuel : ℕ) (items : List X) → length items ≤ fuel → P items
    by_rows_within zero items short = few items (omega arith)
    by_rows_within (suc fuel) items short =
        elim (cases_lt (length items) width) as (λ _. P items) [
          | inl less ↦ few items less
          | inr enough ↦ subst P (take-append-drop width items)
              (more (take width items) (drop width items) (length-take-le width items enough)
              (by_rows_within fuel (drop width items) (omega (arith, length-drop width items))))
        ]

    pub by_rows : (items : List X) → P items
    by_rows items = by_rows_within (length items) items (omega arith)

  -- the rows and the rest of joined lists: those of the first, and then of its rest joined with the second
  abbrev Joins : List X → List X → Type 0
  Joins ys xs = (rows width (xs ++ ys) ≡ rows width xs ++ rows width (chunk_rest width xs ++ ys))
      × (chunk_rest width (xs ++ ys) ≡ chunk_rest width (chunk_rest width xs ++ ys))

  joins-few : (ys xs : List X) → length xs < width → Joins ys xs
  joins-few ys xs few = rw (rows-few width xs few, chunk_rest-few width xs few) (refl, refl)

  joins-more : (ys row others : List X) → length row ≡ width → Joins ys others → Joins ys (row ++ others)
  joins-more ys row others full joined =
      let along = sym (append_assoc row others ys) in
      rw (
        rows-behind row others (row ++ others) refl full,
        chunk_rest-behind row others (row ++ others) refl full,
        rows-behind row (others ++ ys) ((row ++ others) ++ ys) along full,
        chunk_rest-behind row (others ++ ys) ((row ++ others) ++ ys) along full,
      ) (ap (λ k. row ∷ k) joined.0, joined.1)

  -- the rows of two lists, one appended to the other
  pub rows-joined : (xs ys : List X) → rows width (xs ++ ys) ≡ rows width xs ++ rows width (chunk_rest width xs ++ ys)
  rows-joined xs ys = (by_rows (Joins ys) (joins-few ys) (joins-more ys) xs).0

  -- the rest of two lists, one appended to the other
  pub chunk_rest-joined : (xs ys : List X) → chunk_rest width (xs ++ ys) ≡ chunk_rest width (chunk_rest width xs ++ ys)
  chunk_rest-joined xs ys = (by_rows (Joins ys) (joins-few ys) (joins-more ys) xs).1

-- the rows and the rest of items appended to others: to a row, to a row that is begun, to fewer than a row, to any
pub ruleset row_joins = (
  rows-behind,
  chunk_rest-behind,
  rows-filled,
  chunk_rest-filled,
  rows-few,
  chunk_rest-few,
  rows-joined,
  chunk_rest-joined,
)
