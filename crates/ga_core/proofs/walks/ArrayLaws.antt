-- An array for writing, and the view of it, where the types of its items, of its length and of its store are the type
-- parameters i, j and k; with their laws.
use Rattle.ga_views.proofs.walks.Names
use Names.{field_told, Laws, NamedLft, of_field, param, param_laws, RattleType, refl, row_shared, Told, ℕ}
use Rattle.ga_core.proofs.array.GenericArray.TheLaws as items_laws
use Rattle.ga_core.specs.contracts.array.GenericArray as items
use Rattle.ga_core.specs.contracts.array.reborrow.RefMutGenericArrayReborrowSlice.TheImpl as impl
use Rattle.ga_core.specs.declared.length.ArrayLength as array_length
use Rattle.ga_core.specs.declared.store.Store as store
use Rattle.ga_views.proofs.view_mut.ViewMut.TheLaws as laws
use Rattle.ga_views.specs.contracts.view_mut.ViewMut as view
use Rattle.ga_views.specs.declared.length.Unsigned as unsigned
use Rattle.ga_views.specs.declared.reborrow.ReborrowSlice as reborrow
use denote.Param.Shared.{mut_ref_shared}
use denote.Struct.Field.{mut_ref_field}
use denote.Struct.Laws.{mut_ref_laws}

module _ (ℓ : NamedLft) (i : ℕ) (X : RattleType) (j : ℕ) (N : RattleType) (k : ℕ) (A : RattleType)
    (gL : array_length.Ghosts N.Denot X.Denot A.Denot) (gN : unsigned.Ghosts N.Denot)
    (gS : store.Ghosts A.Denot X.Denot) where
  abbrev pub Items : RattleType
  Items = items.the_row (param i X) (param j N) (param k A) gN gS

  abbrev pub Lent : RattleType
  Lent = (mut_ref_field ℓ Items tt).row

  abbrev ghosts : reborrow.Ghosts Lent.Denot X.Denot
  ghosts = impl.ghosts (param i X) (param j N) (param k A) gL impl.no_dict gN impl.no_dict gS impl.no_dict impl.no_dict

  abbrev pub LentView : RattleType
  LentView = view.the_row Lent (param i X) (param j N) ghosts gN

  module _ (LX : Laws X) (LN : Laws N) (LA : Laws A) where
    abbrev lent_laws : Laws Lent
    lent_laws = of_field (mut_ref_field ℓ Items tt) (mut_ref_laws ℓ Items tt) refl
        (mut_ref_shared ℓ Items tt (row_shared Items (items_laws.the_row_laws (param i X) (param j N) (param k A) gN gS
        (param_laws i X LX) (param_laws j N LN) (param_laws k A LA))))

    abbrev pub view_laws : Laws LentView
    view_laws = laws.the_row_laws Lent (param i X) (param j N) ghosts gN lent_laws (param_laws i X LX)
        (param_laws j N LN)

    abbrev pub view_told : Told LentView
    view_told = laws.the_told Lent (param i X) (param j N) ghosts gN lent_laws (param_laws i X LX) (param_laws j N LN)
        (field_told (mut_ref_field ℓ Items tt) (mut_ref_laws ℓ Items tt))
