-- `try_from_mut_slice` hands on what the view's call of this name makes of the slice, so a slice that is refused
-- stays as it was. The borrow checker shows no clause on a lender that is a slice where the answer is a `Result`, so
-- this proof walks the code by hand. Assumes `Logic`.
use Rattle.ga_views.proofs.walks.Names
use Names.{addr, agg, alloc_all, and_then, by, drop, enter, fact, fjoin, fld, flft, framed, free_all, from, ftrue, get}
use Names.{get_in, group, heard, hop, id⊢, Is, lands_as, Laws, Lft, look_at, look_in_at, move, mut_slice_vals, MutSlice}
use Names.{named, NamedLft, no_more, nothing, owns, param, pass_all, peeks, qed, RattleType, raw, refl, returns, sets}
use Names.{shows, split, split3, stop, sub, tables, whole, !, [], ‵, ◌$◌, ◌∵◌, ◌∷◌, ◌⊑◌, ◌⊛◌}
use Rattle.ga_core.proofs.array.GenericArray.try_from_mut_slice.Code as code
use Rattle.ga_core.proofs.array.GenericArray.try_from_mut_slice.Statement.{statement}
use Rattle.ga_core.specs.contracts.array.GenericArray.try_from_mut_slice as F
use Rattle.ga_views.proofs.walks.SliceWalk.{asks_of, gives_up, passes}
use Rattle.ga_views.proofs.walks.SliceLaws.{array_laws, ArrayView}
use Rattle.ga_views.proofs.view_mut.ViewMut+mut+slice+T+T+N.try_from_mut_slice.Met as made
use Rattle.ga_views.proofs.length_error.LengthError.TheLaws as error_laws
use Rattle.ga_views.specs.contracts.view_mut.ViewMut+mut+slice+T+T+N.try_from_mut_slice as make_contract
use Rattle.ga_views.specs.contracts.length_error.LengthError as error
use Rattle.ga_views.specs.declared.length.Unsigned as unsigned
use Rattle.std.proofs.result.Result.TheLaws as result_laws
use Rattle.std.specs.contracts.result.Result as RS

-- the slice, and the view of it or the error
module _ (X N : RattleType) (g : unsigned.Ghosts N.Denot) (κ : Lft) where
  abbrev lasting : NamedLft
  lasting = record { mir = named 0; lft = κ }

  abbrev S : RattleType
  S = MutSlice (named 0) κ (param 0 X)

  abbrev View : RattleType
  View = ArrayView lasting 0 X 1 N g

  abbrev Answer : RattleType
  Answer = RS.the_row View error.the_row

  module _ (LX : Laws X) (LN : Laws N) where
    abbrev answer_laws : Laws Answer
    answer_laws = result_laws.the_row_laws View error.the_row
        (array_laws lasting 0 X 1 N g LX LN) error_laws.the_row_laws

-- A is the type of the slots of N's arrays
pub try_from_mut_slice_spec : {M : Type 1} → statement M
try_from_mut_slice_spec 𝓤 𝓛 𝓜 𝓡 wired X N A LX LN LA gL dL g d gS dS dA boundL bound boundS glue =
    gives_up 3 X 𝓛 (F.clauses X N A gL dL g d gS dS dA 𝓛 𝓜.mem 𝓡.returns) 𝓜 𝓡 _ _
    (code.unfolded 𝓤 𝓛.H 𝓜 𝓡 wired (X, (N, (A, tt))) dL d dS dA) (λ κs qs bounds s gh fits Post leave.
    let κ : Lft = κs.0 in let κT : Lft = κs.1.0 in let κN : Lft = κs.1.1.0 in let κA : Lft = κs.1.1.1.0 in
    let T : RattleType = S X N g κ in let R : RattleType = Answer X N g κ in
    qed 𝓛 (((‵ (flft κ qs.0) ⊛ ‵ (flft κT qs.1.0) ⊛ ‵ (flft κN qs.1.1.0) ⊛ ‵ (flft κA qs.1.1.1.0) ⊛ ‵ ftrue) ⊛
    ‵ (owns (T ∷ []) (s, tt) (mut_slice_vals s, tt)))
    ∷ raw (fact 𝓤 (κT ⊑ X.lives)) ∷ raw (fact 𝓤 (κN ⊑ N.lives)) ∷ raw (fact 𝓤 (κA ⊑ A.lives)) ∷ ‵ ftrue ∷ []) ∵
    move ! (1 ∷ []) $ heard ! _ (λ lT. move ! (1 ∷ []) $ heard ! _
    (λ lN. move ! (1 ∷ []) $ heard ! _ (λ lA. move ! (1 ∷ []) $ drop ! $
    split ! $ split3 ! $ move ! (2 ∷ []) $ split3 ! $
    enter ! _ _ _ _ _ $ alloc_all ! (λ l. pass_all ! refl ((tt, (tt, (record { fits = fits }, tt))), tt) $
    -- [the tokens of N, A; nothing; the tokens of κ, T; the slice]
    sets ! (addr ! (from ! (fld ! refl (hop ! (look_in_at ! 1 (sub ! 0 refl (whole !))) (stop !))))) refl (tt, tt) $
    sets ! (agg ! (and_then ! (get ! refl) (and_then ! (get_in ! (fld ! refl (stop !)) (sub ! 1 refl (whole !)))
    (no_more !)))) refl (tt, (tt, (record { fits = fits }, tt))) $
    move ! (2 ∷ []) $ drop ! $ move ! (2 ∷ 3 ∷ 0 ∷ 4 ∷ []) $
    passes X 𝓛 (make_contract.clauses X N g d 𝓛 𝓜.mem 𝓡.returns) (κ, (κT, (κN, tt)))
    (qs.0, (qs.1.0, (qs.1.1.0, tt))) bounds s tt ! (framed 𝓤 𝓛.H 𝓜 (tables 𝓤 𝓛.H 𝓜 𝓡 𝓡.env))
    (made.met 𝓤 𝓛 𝓜 𝓡 (code.calls-ga_views::view_mut::ViewMut+mut+slice+T+T+N::try_from_mut_slice 𝓡.env wired) X N LX LN
    g d bound)
    (asks_of 𝓛 lT lN (id⊢ 𝓤 _)) (and_then ! (get ! refl) (no_more !)) (λ u w.
    -- [the answer; what is promised; the tokens of κ, T, N; the token of A]
    peeks ! R (Is R) (shows 𝓛 R) w (u ∷ []) (λ is.
    lands_as ! refl refl (((answer_laws X N g κ LX LN).lawful 𝓛).typed w (u ∷ []) is).0 $
    returns ! (look_at ! 0 refl) $ free_all ! refl $
    move ! (2 ∷ []) $ split3 ! $ move ! (2 ∷ []) $ split ! $ move ! (2 ∷ 3 ∷ 0 ∷ 6 ∷ 1 ∷ []) $ group ! 5 $
    nothing ! $ nothing ! $ fjoin ! $ move ! (1 ∷ 0 ∷ []) $ by ! (leave u w))))))))
