-- A slice of items for writing, where the items' type is the type parameter i, and the view of such a slice, where
-- its length is the type parameter j; with their laws.
use Rattle.ga_views.proofs.walks.Names.{Laws, NamedLft, of_field, param, param_laws, RattleType, refl, row_shared, ℕ}
use denote.Param.Shared.{mut_slice_shared}
use denote.Struct.Field.{mut_slice_field}
use denote.Struct.Laws.{mut_slice_laws}
use Rattle.ga_views.proofs.view_mut.ViewMut.TheLaws as view_laws
use Rattle.ga_views.specs.contracts.view_mut.ViewMut as view
use Rattle.ga_views.specs.contracts.reborrow.RefMutSliceReborrowSlice.TheImpl as impl
use Rattle.ga_views.specs.declared.length.Unsigned as unsigned

module _ (ℓ : NamedLft) (i : ℕ) (X : RattleType) where
  abbrev R : RattleType
  R = param i X

  abbrev pub Slice : RattleType
  Slice = (mut_slice_field ℓ R tt).row

  abbrev pub slice_laws : Laws X → Laws Slice
  slice_laws LX = of_field (mut_slice_field ℓ R tt) (mut_slice_laws ℓ R tt) refl
      (mut_slice_shared ℓ R tt (row_shared R (param_laws i X LX)))

  module _ (j : ℕ) (N : RattleType) (g : unsigned.Ghosts N.Denot) where
    abbrev pub ArrayView : RattleType
    ArrayView = view.the_row Slice R (param j N) (impl.ghosts R) g

    abbrev pub array_laws : Laws X → Laws N → Laws ArrayView
    array_laws LX LN = view_laws.the_row_laws Slice R (param j N) (impl.ghosts R) g (slice_laws LX) (param_laws i X LX)
        (param_laws j N LN)
