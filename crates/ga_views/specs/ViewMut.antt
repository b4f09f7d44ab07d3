-- What a writing view ends as, where its items are borrowed for writing.
use Rattle.ga_views.specs.contracts.view_mut.ViewMut.{the_row}
use Rattle.ga_views.specs.declared.length.Unsigned as unsigned
use Rattle.ga_views.specs.declared.reborrow.ReborrowSlice as reborrow
use Rattle.std.proofs.Common.{ap, sym, ◌∙◌}
use Rattle.std.proofs.Math.ListN.{length-set}
use Rattle.std.specs.Borrow.{Array, Fml, Lends, LendsIf, MutBor, RattleType, follows}
use Rattle.std.specs.List.{length_refill}
use Rattle.std.specs.Prelude.{◌≡◌, ℕ, List, Option, length, refl}
use Rattle.std.specs.Slice.Iter.{iter_mut_name}
use Rattle.std.specs.declared.slice.IterMut.{IterMut}

module _ (S T N : RattleType) (s : reborrow.Ghosts S.Denot T.Denot) (n : unsigned.Ghosts N.Denot) where
  -- the slice stays full whatever is written over the items, or over one; facts of their own, so that no proof opens
  -- them
  pub full-written : (view : (the_row S T N s n).Denot) (written : List T.Denot)
      → length (s.items (s.slice_with view.slice written).0) ≡ n.USIZE
  full-written view written = ap length (s.slice_with view.slice written).1
      ∙ (sym (length_refill (length (s.items view.slice)) (s.items view.slice) written refl) ∙ view.full)

  pub full-written_item : (view : (the_row S T N s n).Denot) (i : ℕ) (item : T.Denot)
      → length (s.items (s.slice_with_item view.slice i item).0) ≡ n.USIZE
  full-written_item view i item = ap length (s.slice_with_item view.slice i item).1
      ∙ (length-set (s.items view.slice) i item ∙ view.full)

  -- the view with these items written over its own, as many as it has
  abbrev pub view_with : (the_row S T N s n).Denot → List T.Denot → (the_row S T N s n).Denot
  view_with view written = record view {
    slice = (s.slice_with view.slice written).0;
    full = full-written view written;
  }

  -- the view with this item at a place
  abbrev pub view_with_item : (the_row S T N s n).Denot → ℕ → T.Denot → (the_row S T N s n).Denot
  view_with_item view i item = record view {
    slice = (s.slice_with_item view.slice i item).0;
    full = full-written_item view i item;
  }

  module _ (view : MutBor (the_row S T N s n).Denot) where
    -- once the borrow r ends, the items are those that r shows last
    abbrev pub LendsViewItems : MutBor (List T.Denot) → Fml
    LendsViewItems r = Lends (the_row S T N s n) (Array T 0) view r (view_with view.now)

    -- the same where the items went to an `iter_mut`
    abbrev pub LendsViewIter : IterMut T.Denot → Fml
    LendsViewIter items = follows (the_row S T N s n) (Array T 0) view.ghost_name (iter_mut_name items) (view_with view.now)

    -- once the borrow r ends, place i has the last value written through r, and the others are as they were
    abbrev pub LendsViewItem : ℕ → MutBor T.Denot → Fml
    LendsViewItem i r = Lends (the_row S T N s n) T view r (view_with_item view.now i)

    -- the same where there is such a place; at `None` all items are as they were
    abbrev pub LendsViewItemIf : ℕ → Option (MutBor T.Denot) → Fml
    LendsViewItemIf i r = LendsIf (the_row S T N s n) T view r (view_with_item view.now i) view.now
