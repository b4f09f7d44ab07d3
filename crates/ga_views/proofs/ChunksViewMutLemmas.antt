-- Rows for writing are the same where their slices are: that no rest is left is a fact and no more.
use native.Mathlib.Nat.{ℕ_set}
use Rattle.ga_views.specs.Parts.{part_set}
use Rattle.ga_views.specs.Rows.{chunk_count}
use Rattle.ga_views.specs.declared.chunks_mut.ChunksViewMut.{ChunksViewMut}
use Rattle.ga_views.specs.declared.length.Unsigned as unsigned
use Rattle.ga_views.specs.declared.reborrow.ReborrowSlice as reborrow
use Rattle.std.proofs.Common.{ap, subst, ◌∙◌}
use Rattle.std.specs.Prelude.{◌≡◌, ℕ, ◌*◌, List, length}

module _ {S T N : Type 0} {s : reborrow.Ghosts S T} {n : unsigned.Ghosts N} (rows : ChunksViewMut S T N s n) where
  pub same_rows : (slice other : S) (whole : length (s.items slice) ≡ chunk_count n.USIZE (s.items slice) * n.USIZE)
      (also : length (s.items other) ≡ chunk_count n.USIZE (s.items other) * n.USIZE)
      → slice ≡ other → record rows { slice = slice; whole = whole } ≡ record rows { slice = other; whole = also }
  same_rows slice other whole also same =
      subst (λ x. (fact : length (s.items x) ≡ chunk_count n.USIZE (s.items x) * n.USIZE)
      → record rows { slice = slice; whole = whole } ≡ record rows { slice = x; whole = fact }) same
      (λ fact. ap (λ f. record rows { slice = slice; whole = f }) (ℕ_set _ _ whole fact)) also

  -- the same where a part is written over, if it lies at the same place
  pub same_part : (items row : List T) (start to len width : ℕ) → start ≡ to → len ≡ width
      → (s.slice_with rows.slice (part_set start len items row)).0
      ≡ (s.slice_with rows.slice (part_set to width items row)).0
  same_part items row start to len width at long =
      ap (λ k. (s.slice_with rows.slice (part_set k len items row)).0) at
      ∙ ap (λ k. (s.slice_with rows.slice (part_set to k items row)).0) long
