-- What rows for writing end as, where their items are borrowed for writing.
use Rattle.ga_views.specs.Parts.{part_set}
use Rattle.ga_views.specs.Rows.{chunk_count}
use Rattle.ga_views.specs.contracts.chunks_mut.ChunksViewMut.{the_row}
use Rattle.ga_views.specs.declared.length.Unsigned as unsigned
use Rattle.ga_views.specs.declared.reborrow.ReborrowSlice as reborrow
use Rattle.std.proofs.Common.{ap, sym, ◌∙◌}
use Rattle.std.specs.Borrow.{Array, Fml, Lends, LendsIf, MutBor, RattleType}
use Rattle.std.specs.List.{length_refill}
use Rattle.std.specs.Prelude.{◌≡◌, ℕ, ◌*◌, ◌/◌, List, Option, length, refl}

module _ (S T N : RattleType) (s : reborrow.Ghosts S.Denot T.Denot) (n : unsigned.Ghosts N.Denot) where
  -- no rest is left whatever is written over the items; a fact of its own, so that no proof opens it
  pub whole-written : (rows : (the_row S T N s n).Denot) (written : List T.Denot)
      → let after = (s.slice_with rows.slice written).0 in
      length (s.items after) ≡ chunk_count n.USIZE (s.items after) * n.USIZE
  whole-written rows written =
      let after = s.slice_with rows.slice written in
      let same = ap length after.1 ∙ sym (length_refill (length (s.items rows.slice)) (s.items rows.slice) written refl)
      in
      same ∙ (rows.whole ∙ ap (λ len. len / n.USIZE * n.USIZE) (sym same))

  -- the rows with these items written over their own, as many as they have
  abbrev pub rows_with : (the_row S T N s n).Denot → List T.Denot → (the_row S T N s n).Denot
  rows_with rows written = record rows {
    slice = (s.slice_with rows.slice written).0;
    whole = whole-written rows written;
  }

  -- the rows with these items in the row at an index
  abbrev pub row_set : (the_row S T N s n).Denot → ℕ → List T.Denot → (the_row S T N s n).Denot
  row_set rows index row = rows_with rows (part_set (index * n.USIZE) n.USIZE (s.items rows.slice) row)

  module _ (rows : MutBor (the_row S T N s n).Denot) where
    -- once the borrow r ends, the items are those that r shows last
    abbrev pub LendsRowItems : MutBor (List T.Denot) → Fml
    LendsRowItems r = Lends (the_row S T N s n) (Array T 0) rows r (rows_with rows.now)

    -- once the borrow r ends, the row at this index is what r shows last, and the others are as they were
    abbrev pub LendsRow : ℕ → MutBor (List T.Denot) → Fml
    LendsRow index r = Lends (the_row S T N s n) (Array T 0) rows r (row_set rows.now index)

    -- the same where there is such a row; at `None` all items are as they were
    abbrev pub LendsRowIf : ℕ → Option (MutBor (List T.Denot)) → Fml
    LendsRowIf index r = LendsIf (the_row S T N s n) (Array T 0) rows r (row_set rows.now index) rows.now
