-- `split` cuts the slice of a view and makes a view of each part, so the slice ends as what the two views' slices
-- end as, one after the other. The borrow checker shows no clause on two parts where they are passed on to a call
-- that makes views of them, so this proof walks the code by hand. Assumes `Logic`.
use Rattle.ga_core.proofs.walks.Names
use Names.{addr, agg, alloc_all, and_then, ap, arith, Array, by, Dict, drop, drop_list, emp, Ended, enter, fact, fact_i}
use Names.{field_told, fjoin, fld, flft, follows_both, framed, free_all, from, ftrue, get, get_in, GName, Goes-blank}
use Names.{group, heard, hop, id⊢, Is, join, lands_as, Laws, leaves, length, Lft, List, look_at, look_in_at, move}
use Names.{mut_slice_vals, named, NamedLft, no, no_more, nothing, of_opd, only, owns, param, param_laws, pass_all}
use Names.{peeks, plain, proved, qed, RattleType, raw, refl, returns, rewrite, sets, shows, Slot, split, split3}
use Names.{stay_dropped, Stays, stop, sub, sym, tables, take, Told, Tuple, tuple_laws, use0, Val, walk_of, whole, !, []}
use Names.{‵, ℕ, ◌$◌, ◌++◌, ◌+◌, ◌∙◌, ◌∵◌, ◌∷◌, ◌≡◌, ◌≤◌, ◌⊑◌, ◌⊛◌}
use Rattle.ga_core.below.ga_views.proofs.view_mut.ViewMut+mut+slice+T+T+N.into_mut_slice.Met as taken
use Rattle.ga_core.below.ga_views.specs.contracts.view_mut.ViewMut+mut+slice+T+T+N.into_mut_slice as take_contract
use Rattle.ga_core.below.ga_views.specs.contracts.reborrow.RefMutSliceReborrowSlice.TheImpl as impl
use Rattle.ga_core.proofs.walks.CallStep.{asked, calls}
use Rattle.ga_core.proofs.ViewMut.TheLaws as laws
use Rattle.ga_core.proofs.walks.LengthCall.{calls_length}
use Rattle.ga_core.proofs.walks.SliceLaws.{array_laws, ArrayView, Slice, slice_laws}
use Rattle.ga_core.proofs.walks.SplitWalk.{cuts}
use Rattle.ga_core.specs.declared.Unsigned as unsigned
use Rattle.generic_array.proofs.sequence.shapes.views.GenericArrayMutSplit.split.Code as code
use Rattle.generic_array.proofs.sequence.shapes.views.GenericArrayMutSplit.split.Statement.{statement}
use Rattle.generic_array.proofs.sequence.shapes.views.views_of.Met as made
use Rattle.generic_array.specs.contracts.sequence.shapes.views.GenericArrayMutSplit.split as F
use Rattle.generic_array.specs.contracts.sequence.shapes.views.views_of as make_contract
use Rattle.std.proofs.slice.slice+T.split_at_mut.Met as cut
use denote.Struct.Field.{mut_slice_field}
use denote.Struct.Laws.{mut_slice_laws}

-- the slice, and a view whose length's type is the i-th parameter
module _ (X : RattleType) (κ : Lft) where
  abbrev lasting : NamedLft
  lasting = record { mir = named 0; lft = κ }

  abbrev S : RattleType
  S = Slice lasting 0 X

  module _ (i : ℕ) (Z : RattleType) (g : unsigned.Ghosts Z.Denot) where
    abbrev View : RattleType
    View = ArrayView lasting 0 X i Z g

    module _ (LX : Laws X) (LZ : Laws Z) where
      abbrev view_laws : Laws View
      view_laws = array_laws lasting 0 X i Z g LX LZ

      abbrev view_told : Told View
      view_told =
          laws.the_told S (param 0 X) (param i Z) (impl.ghosts (param 0 X)) g (slice_laws lasting 0 X LX)
          (param_laws 0 X LX) (param_laws i Z LZ)
          (field_told (mut_slice_field lasting (param 0 X) tt) (mut_slice_laws lasting (param 0 X) tt))

-- N, K and P are the types of the lengths of the view and of its two halves
module _ (X N K P : RattleType) (gN : unsigned.Ghosts N.Denot) (dN : Dict) (gK : unsigned.Ghosts K.Denot) (dK : Dict)
    (gP : unsigned.Ghosts P.Denot) (dP : Dict) where
  abbrev ended : Ended
  ended = F.ended X N K P gN dN gK dK gP dP

  abbrev slot : Slot 5
  slot = plain (λ κs. View X κs.0 1 N gN)

pub split_spec : {M : Type 1} → statement M
split_spec 𝓤 𝓛 𝓜 𝓡 wired X N K P LX LN LK LP gN dN gK dK gP dP boundN boundK boundP =
    let ends = ended X N K P gN dN gK dK gP dP in
    let one = slot X N K P gN dN gK dK gP dP in
    let kept : Stays ends.signature.params ends.kept = (stay_dropped one no, tt) in
    let c = F.clauses X N K P gN dN gK dK gP dP 𝓛 𝓜.mem 𝓡.returns in
    let 𝓣 = tables 𝓤 𝓛.H 𝓜 𝓡 𝓡.env in
    let E : RattleType = param 0 X in
    proved 𝓛 ends kept c 𝓜 𝓡 (Goes-blank 𝓛 5 one no (λ κs x f. tt), tt)
    _ _ (code.unfolded 𝓤 𝓛.H 𝓜 𝓡 wired (X, (N, (K, (P, tt)))) dN dK dP)
    (λ κs. (λ x. (view_told X κs.0 1 N gN LX LN).val x ∷ [], tt)) (λ κs. ((view_told X κs.0 1 N gN LX LN).tells, tt))
    (λ κs qs bounds a gh are.
    let κ : Lft = κs.0 in let κT : Lft = κs.1.0 in let κN : Lft = κs.1.1.0 in let κK : Lft = κs.1.1.1.0 in
    let κP : Lft = κs.1.1.1.1.0 in
    let Part : RattleType = S X κ in
    let One : RattleType = View X κ 1 N gN in let First : RattleType = View X κ 2 K gK in let Second : RattleType =
    View X κ 3 P gP in
    let Answer : RattleType = Tuple (First ∷ Second ∷ []) in
    let whole_val : Val = (view_told X κ 1 N gN LX LN).val a.0 in
    let W = walk_of 𝓛 ends kept c in
    let y : W.Ghost = ((κs, qs, bounds, a, (whole_val ∷ [], tt)), tt) in
    qed 𝓛 (((‵ (flft κ qs.0) ⊛ ‵ (flft κT qs.1.0) ⊛ ‵ (flft κN qs.1.1.0) ⊛ ‵ (flft κK qs.1.1.1.0) ⊛
    ‵ (flft κP qs.1.1.1.1.0) ⊛ ‵ ftrue) ⊛
    ‵ (owns (One ∷ []) a (whole_val ∷ [], tt))) ∷ raw (fact 𝓤 (κT ⊑ X.lives)) ∷ raw (fact 𝓤 (κN ⊑ N.lives))
    ∷ raw (fact 𝓤 (κK ⊑ K.lives)) ∷ raw (fact 𝓤 (κP ⊑ P.lives)) ∷
    raw (fact 𝓤 (gN.USIZE ≡ gK.USIZE + gP.USIZE)) ∷ []) ∵
    move ! (1 ∷ []) $ heard ! _ (λ lT. move ! (1 ∷ []) $ heard ! _ (λ lN. move ! (1 ∷ []) $ heard ! _ (λ lK.
    move ! (1 ∷ []) $ heard ! _ (λ lP. move ! (1 ∷ []) $ heard ! _ (λ sum.
    let good = ((view_laws X κ 1 N gN LX LN).lawful 𝓛).typed a.0 (whole_val ∷ []) are.0 in
    enter ! _ _ _ _ _ $ alloc_all ! (λ l. pass_all ! refl (good.0, tt) $
    sets ! (of_opd ! (get ! refl)) refl good.0 $
    -- the slice is taken out of the view
    split ! $ split3 ! $ move ! (2 ∷ []) $ split3 ! $ move ! (2 ∷ []) $ split ! $ move ! (1 ∷ []) $
    -- [nothing; the tokens of P, N, K, κ, T; the view]
    move ! (4 ∷ 5 ∷ 2 ∷ 0 ∷ 6 ∷ []) $ group ! 4 $
    calls 𝓛 (take_contract.ended X N gN dN) (take_contract.clauses X N gN dN 𝓛 𝓜.mem 𝓡.returns) (κ, (κT, (κN, tt)))
    (qs.0, (qs.1.0, (qs.1.1.0, tt))) bounds a (whole_val ∷ [], tt) tt
    (λ s. raw (fact 𝓤 (s ≡ a.0.slice)) ⊛ raw (fact 𝓤 (length s.now ≡ gN.USIZE))) ! (framed 𝓤 𝓛.H 𝓜 𝓣)
    (taken.met 𝓤 𝓛 𝓜 𝓡 (code.calls-ga_views::view_mut::ViewMut+mut+slice+T+T+N::into_mut_slice 𝓡.env wired) X N LX LN gN
    dN boundN) (asked 𝓛 lT (asked 𝓛 lN (id⊢ 𝓤 _))) (id⊢ 𝓤 _) (λ u. id⊢ 𝓤 _) (and_then ! (get ! refl) (no_more !)) (λ u s.
    move ! (1 ∷ []) $ split ! $ heard ! _ (λ same. heard ! _ (λ is_N.
    -- [the slice; the tokens of κ, T, N; the tokens of P, K]
    peeks ! Part (Is Part) (shows 𝓛 Part) s (u ∷ []) (λ is.
    lands_as ! (ap only is.0.0) refl (tt, (tt, (record { fits = is.0.1.0 }, tt))) $
    rewrite ! 0 (λ (vs : List Val). ‵ (Part.own_val s vs)) is.0.0 refl $
    -- the first view's length
    move ! (3 ∷ []) $ nothing ! $ move ! (1 ∷ 0 ∷ []) $ join ! $
    calls_length K gK dK 𝓛 𝓜.mem 𝓡.returns ! (framed 𝓤 𝓛.H 𝓜 𝓣) boundK.USIZE κK qs.1.1.1.0 lK (λ m is_K fits_K.
    -- [the length; the token of K; the slice; the tokens of κ, T, N; the token of P]
    lands_as ! refl refl (tt, record { fits = fits_K }) $
    -- the slice is cut
    let inside : m ≤ length s.now = omega (arith, is_K, is_N, sum) in
    move ! (3 ∷ []) $ split3 ! $ move ! (5 ∷ 3 ∷ 0 ∷ 1 ∷ []) $
    cuts X 𝓛 𝓜.mem 𝓡.returns κ κT qs.0 qs.1.0 bounds.0 s m ! (framed 𝓤 𝓛.H 𝓜 𝓣)
    (cut.met 𝓤 𝓛 𝓜 𝓡 (code.calls-core::slice::slice+T::split_at_mut 𝓡.env wired) X LX) lT inside
    (and_then ! (get ! refl) (and_then ! (get ! refl) (no_more !))) (λ first second parts.
    -- [the second part; the first part; what follows; the tokens of κ, T; the token of N, with nothing; the tokens of
    -- K, P]
    let f₁ = parts.first_fits in let f₂ = parts.second_fits in
    lands_as ! refl refl (tt, ((tt, (record { fits = f₁ }, tt)), ((tt, (record { fits = f₂ }, tt)), tt))) $
    sets ! (of_opd ! (get_in ! (fld ! refl (stop !)) (sub ! 0 refl (whole !)))) refl (tt, (tt, (record { fits = f₁ }, tt))) $
    sets ! (of_opd ! (get_in ! (fld ! refl (stop !)) (sub ! 1 refl (whole !)))) refl (tt, (tt, (record { fits = f₂ }, tt))) $
    sets ! (addr ! (from ! (fld ! refl (hop ! (look_in_at ! 2 (sub ! 0 refl (whole !))) (stop !))))) refl (tt, tt) $
    sets ! (agg ! (and_then ! (get ! refl) (and_then ! (get_in ! (fld ! refl (stop !)) (sub ! 1 refl (whole !)))
    (no_more !)))) refl (tt, (tt, (record { fits = f₁ }, tt))) $
    sets ! (addr ! (from ! (fld ! refl (hop ! (look_in_at ! 3 (sub ! 0 refl (whole !))) (stop !))))) refl (tt, tt) $
    sets ! (agg ! (and_then ! (get ! refl) (and_then ! (get_in ! (fld ! refl (stop !)) (sub ! 1 refl (whole !)))
    (no_more !)))) refl (tt, (tt, (record { fits = f₂ }, tt))) $
    -- the views are made
    nothing ! $ move ! (1 ∷ 0 ∷ []) $ fjoin ! $ move ! (1 ∷ 0 ∷ []) $ fjoin ! $ move ! (2 ∷ []) $ split3 ! $ move !
    (6 ∷ []) $ split ! $
    move ! (2 ∷ 3 ∷ 0 ∷ 8 ∷ 1 ∷ 5 ∷ []) $ group ! 5 $
    calls 𝓛 (make_contract.ended X K P gK dK gP dP) (make_contract.clauses X K P gK dK gP dP 𝓛 𝓜.mem 𝓡.returns)
    (κ, (κT, (κK, (κP, tt)))) (qs.0, (qs.1.0, (qs.1.1.1.0, (qs.1.1.1.1.0, tt)))) bounds (first, (second, tt))
    (mut_slice_vals first, (mut_slice_vals second, tt)) tt
    (λ w. raw (fact 𝓤 (w.0.slice ≡ first)) ⊛ raw (fact 𝓤 (w.1.slice ≡ second))) ! (framed 𝓤 𝓛.H 𝓜 𝓣)
    (made.met 𝓤 𝓛 𝓜 𝓡 (code.calls-generic_array::sequence::shapes::views::views_of 𝓡.env wired) X K P LX LK LP gK dK gP
    dP boundK boundP) (asked 𝓛 lT (asked 𝓛 lK (asked 𝓛 lP (asked 𝓛 (parts.first_len ∙ is_K) (fact_i 𝓤 _ (emp 𝓤)
    (omega (arith, is_K, is_N, sum, parts.second_len))))))) (id⊢ 𝓤 _) (λ u. id⊢ 𝓤 _)
    (and_then ! (get ! refl) (and_then ! (get ! refl) (no_more !))) (λ u w.
    move ! (1 ∷ []) $ split ! $ heard ! _ (λ of_first. heard ! _ (λ of_second.
    -- [the views; the tokens of κ, T, K, P; nothing; what follows; the token of N]
    peeks ! Answer (Is Answer) (shows 𝓛 Answer) w (u ∷ []) (λ views.
    lands_as ! refl refl (((tuple_laws (First ∷ Second ∷ [])
    (view_laws X κ 2 K gK LX LK, (view_laws X κ 3 P gP LX LP, tt))).lawful 𝓛).typed w (u ∷ []) views).0 $
    returns ! (look_at ! 0 refl) $ free_all ! refl $
    rewrite ! 3 (λ (names : GName × GName × GName).
    ‵ (follows_both (Array E 0) (Array E 0) (Array E 0) names.0 names.1 names.2 ◌++◌))
    (λ i. ((same i).ghost_name, (sym of_first i).ghost_name, (sym of_second i).ghost_name)) refl $
    move ! (1 ∷ 4 ∷ []) $ split3 ! $ move ! (3 ∷ []) $ split ! $ move ! (1 ∷ []) $ drop ! $ move !
    (1 ∷ 2 ∷ 0 ∷ 3 ∷ []) $ group ! 4 $
    -- [all tokens; the views; nothing; what follows]
    nothing ! $ move ! (0 ∷ 3 ∷ []) $ fjoin ! $
    use0 𝓛 (raw (fact 𝓤 (w.1.slice.now ≡ drop_list gK.USIZE a.0.slice.now)))
    (fact_i 𝓤 _ (emp 𝓤) (ap (λ (x : Part.Denot). x.now) of_second ∙ parts.second_is
    ∙ (λ i. drop_list (is_K i) (same i).now))) $
    use0 𝓛 (raw (fact 𝓤 (w.0.slice.now ≡ take gK.USIZE a.0.slice.now)))
    (fact_i 𝓤 _ (emp 𝓤) (ap (λ (x : Part.Denot). x.now) of_first ∙ parts.first_is ∙ (λ i. take (is_K i) (same i).now)))
    $
    move ! (3 ∷ 2 ∷ 4 ∷ 5 ∷ []) $
    by ! (leaves 𝓛 ends kept c y u w ((tt, tt), tt) (tt, tt)))))))))))))))))))
