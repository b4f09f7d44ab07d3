-- `chunks_from_slice_mut` hands on the rows and the rest that `ChunksMut` makes of the slice, so the slice ends as
-- what the two end as, one after the other. The borrow checker shows no clause that two views together follow one
-- slice, so this proof walks the code by hand. Assumes `Logic`.
use Rattle.ga_views.proofs.walks.Names
use Names.{addr, agg, alloc_all, and_then, by, drop, emp, enter, fact, fact_i, fjoin, fld, flft, framed, free_all, from}
use Names.{ftrue, get, get_in, group, heard, hop, Is, lands_as, Laws, length, Lft, look_at, look_in_at, move}
use Names.{mut_slice_vals, MutSlice, named, no_more, nothing, owns, param, param_laws, pass_all, peeks, qed, RattleType}
use Names.{raw, refl, returns, sets, shows, split, split3, stop, sub, tables, Tuple, tuple_laws, whole, !, [], ‵, ◌$◌}
use Names.{◌<◌, ◌∵◌, ◌∷◌, ◌≡◌, ◌⊎◌, ◌⊑◌, ◌⊛◌}
use Rattle.ga_core.proofs.array.GenericArray.chunks_from_slice_mut.Code as code
use Rattle.ga_core.proofs.array.GenericArray.chunks_from_slice_mut.Statement.{statement}
use Rattle.ga_core.specs.contracts.array.GenericArray.chunks_from_slice_mut as F
use Rattle.ga_views.proofs.walks.SliceWalk.{asks_of, gives_up, passes}
use Rattle.ga_views.proofs.walks.SliceLaws.{slice_laws}
use Rattle.ga_views.proofs.chunks_mut.ChunksViewMut+mut+slice+T+T+N.chunks_from_slice_mut.Met as made
use Rattle.ga_views.proofs.chunks_mut.ChunksViewMut.TheLaws as rows_laws
use Rattle.ga_views.specs.contracts.chunks_mut.ChunksViewMut as rows_of
use Rattle.ga_views.specs.contracts.chunks_mut.ChunksViewMut+mut+slice+T+T+N.chunks_from_slice_mut as make_contract
use Rattle.ga_views.specs.contracts.reborrow.RefMutSliceReborrowSlice.TheImpl as impl
use Rattle.ga_views.specs.declared.length.Unsigned as unsigned

-- the slice, and the rows with the rest
module _ (X N : RattleType) (g : unsigned.Ghosts N.Denot) (κ : Lft) where
  abbrev S : RattleType
  S = MutSlice (named 0) κ (param 0 X)

  abbrev Rows : RattleType
  Rows = rows_of.the_row S (param 0 X) (param 1 N) (impl.ghosts (param 0 X)) g

  abbrev Answer : RattleType
  Answer = Tuple (Rows ∷ S ∷ [])

  module _ (LX : Laws X) (LN : Laws N) where
    abbrev slices : Laws S
    slices = slice_laws (record { mir = named 0; lft = κ }) 0 X LX

    abbrev answer_laws : Laws Answer
    answer_laws = tuple_laws (Rows ∷ S ∷ []) (
      rows_laws.the_row_laws S (param 0 X) (param 1 N) (impl.ghosts (param 0 X)) g slices (param_laws 0 X LX)
          (param_laws 1 N LN),
      (slices, tt),
    )

-- A is the type of the slots of N's arrays
pub chunks_from_slice_mut_spec : {M : Type 1} → statement M
chunks_from_slice_mut_spec 𝓤 𝓛 𝓜 𝓡 wired X N A LX LN LA gL dL g d gS dS dA boundL bound boundS glue =
    gives_up 3 X 𝓛 (F.clauses X N A gL dL g d gS dS dA 𝓛 𝓜.mem 𝓡.returns) 𝓜 𝓡 _ _
    (code.unfolded 𝓤 𝓛.H 𝓜 𝓡 wired (X, (N, (A, tt))) dL d dS dA) (λ κs qs bounds s gh fits Post leave.
    let width = g.USIZE in
    let κ : Lft = κs.0 in let κT : Lft = κs.1.0 in let κN : Lft = κs.1.1.0 in let κA : Lft = κs.1.1.1.0 in
    let T : RattleType = S X N g κ in let Pair : RattleType = Answer X N g κ in
    qed 𝓛 (((‵ (flft κ qs.0) ⊛ ‵ (flft κT qs.1.0) ⊛ ‵ (flft κN qs.1.1.0) ⊛ ‵ (flft κA qs.1.1.1.0) ⊛ ‵ ftrue) ⊛
    ‵ (owns (T ∷ []) (s, tt) (mut_slice_vals s, tt)))
    ∷ raw (fact 𝓤 (κT ⊑ X.lives)) ∷ raw (fact 𝓤 (κN ⊑ N.lives)) ∷ raw (fact 𝓤 (κA ⊑ A.lives))
    ∷ raw (fact 𝓤 ((0 < width) ⊎ (length s.now ≡ 0))) ∷ []) ∵
    move ! (1 ∷ []) $ heard ! _ (λ lT. move ! (1 ∷ []) $ heard ! _
    (λ lN. move ! (1 ∷ []) $ heard ! _ (λ lA. move ! (1 ∷ []) $ heard ! _ (λ wide.
    split ! $ split3 ! $ move ! (2 ∷ []) $ split3 ! $
    enter ! _ _ _ _ _ $ alloc_all ! (λ l. pass_all ! refl ((tt, (tt, (record { fits = fits }, tt))), tt) $
    -- [the tokens of N, A; nothing; the tokens of κ, T; the slice]
    sets ! (addr ! (from ! (fld ! refl (hop ! (look_in_at ! 1 (sub ! 0 refl (whole !))) (stop !))))) refl (tt, tt) $
    sets ! (agg ! (and_then ! (get ! refl) (and_then ! (get_in ! (fld ! refl (stop !)) (sub ! 1 refl (whole !)))
    (no_more !)))) refl (tt, (tt, (record { fits = fits }, tt))) $
    move ! (2 ∷ []) $ drop ! $ move ! (2 ∷ 3 ∷ 0 ∷ 4 ∷ []) $
    passes X 𝓛 (make_contract.clauses X N g d 𝓛 𝓜.mem 𝓡.returns) (κ, (κT, (κN, tt)))
    (qs.0, (qs.1.0, (qs.1.1.0, tt))) bounds s tt ! (framed 𝓤 𝓛.H 𝓜 (tables 𝓤 𝓛.H 𝓜 𝓡 𝓡.env))
    (made.met 𝓤 𝓛 𝓜 𝓡 (code.calls-ga_views::chunks_mut::ChunksViewMut+mut+slice+T+T+N::chunks_from_slice_mut 𝓡.env
    wired) X N LX LN g d bound)
    (asks_of 𝓛 lT lN (fact_i 𝓤 _ (emp 𝓤) wide)) (and_then ! (get ! refl) (no_more !)) (λ u w.
    -- [the rows and the rest; what is promised; the tokens of κ, T, N; the token of A]
    peeks ! Pair (Is Pair) (shows 𝓛 Pair) w (u ∷ []) (λ is.
    lands_as ! refl refl (((answer_laws X N g κ LX LN).lawful 𝓛).typed w (u ∷ []) is).0 $
    returns ! (look_at ! 0 refl) $ free_all ! refl $
    move ! (2 ∷ []) $ split3 ! $ move ! (2 ∷ []) $ split ! $ move ! (2 ∷ 3 ∷ 0 ∷ 6 ∷ 1 ∷ []) $ group ! 5 $
    nothing ! $ nothing ! $ fjoin ! $ move ! (1 ∷ 0 ∷ []) $ by ! (leave u w)))))))))
