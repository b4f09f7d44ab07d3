-- Two writing views are the same where their slices are: that a slice is full is a fact and no more.
use native.Mathlib.Nat.{ℕ_set}
use Rattle.ga_views.specs.declared.view_mut.ViewMut.{ViewMut}
use Rattle.ga_views.specs.declared.length.Unsigned as unsigned
use Rattle.ga_views.specs.declared.reborrow.ReborrowSlice as reborrow
use Rattle.std.proofs.Common.{ap}
use Rattle.std.specs.Prelude.{◌≡◌, length}

module _ {S T N : Type 0} {s : reborrow.Ghosts S T} {n : unsigned.Ghosts N} where
  pub same_full : (view : ViewMut S T N s n) (full : length (s.items view.slice) ≡ n.USIZE)
      → view ≡ record view { full = full }
  same_full view full = ap (λ fact. record view { full = fact }) (ℕ_set _ _ view.full full)
