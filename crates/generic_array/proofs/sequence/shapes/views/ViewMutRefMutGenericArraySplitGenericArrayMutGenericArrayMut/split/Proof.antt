-- `split` of the view of an array lends the array's slice and cuts the view of that, so the array ends as what the two
-- views' slices end as, one after the other. The borrow checker shows no clause on two parts of what is lent on, so
-- this proof walks the code by hand. Assumes `Logic`.
use Rattle.ga_core.proofs.walks.Names
use Names.{addr, alloc_all, and_then, ap, Array, by, drop, drop_list, emp, Ended, enter, fact, fact_i, feq_l, fjoin}
use Names.{fld, flft, fpick, framed, free_all, from, fsplit, ftrue, get, Goes-blank, group, heard, hop, id⊢, Is}
use Names.{lands_as, leaves, length, Lft, List, look_at, look_in_at, move, mut_Tells, mut_vals, named, NamedLft, no}
use Names.{no_more, nothing, only, owns, param, pass_all, peeks, plain, proved, qed, RattleType, raw, refl, returns}
use Names.{rewrite, sets, shows, Slot, split, split3, stay_dropped, Stays, stop, sub, tables, take, Tuple, tuple_laws}
use Names.{use0, use2, Val, walk_of, whole, !, [], ‵, ◌$◌, ◌++◌, ◌+◌, ◌∙◌, ◌∵◌, ◌∷◌, ◌≡◌, ◌⊑◌, ◌⊛◌}
use Rattle.ga_core.below.ga_views.proofs.view_mut.ViewMut+mut+slice+T+T+N.from_mut_slice.Met as viewed
use Rattle.ga_core.below.ga_views.specs.contracts.view_mut.ViewMut+mut+slice+T+T+N.from_mut_slice as view_contract
use Rattle.ga_core.proofs.walks.ArrayLaws.{Items, Lent, LentView, view_laws, view_told}
use Rattle.ga_core.proofs.walks.CallStep.{asked, calls}
use Rattle.ga_core.proofs.walks.SliceLaws.{array_laws, ArrayView, Slice}
use Rattle.ga_core.proofs.walks.SliceWalk.{asks_of, passes}
use Rattle.ga_core.proofs.array.GenericArray.as_mut_slice.Met as lent
use Rattle.ga_core.specs.Lends.{array_with, LendsBothParts, LendsItems}
use Rattle.ga_core.specs.Length.{FitsInline}
use Rattle.ga_core.specs.Parts.{LendsHalves}
use Rattle.ga_core.specs.contracts.array.GenericArray.as_mut_slice as lend_contract
use Rattle.ga_core.proofs.walks.FollowLemmas.{follows_both_then}
use Rattle.generic_array.proofs.sequence.shapes.views.GenericArrayMutSplit.split.Met as halved
use Rattle.generic_array.proofs.sequence.shapes.views.ViewMutRefMutGenericArraySplitGenericArrayMutGenericArrayMut.split.Code as code
use Rattle.generic_array.proofs.sequence.shapes.views.ViewMutRefMutGenericArraySplitGenericArrayMutGenericArrayMut.split.Statement.{statement}
use Rattle.generic_array.specs.contracts.sequence.shapes.views.GenericArrayMutSplit.split as halve_contract
use Rattle.generic_array.specs.contracts.sequence.shapes.views.ViewMutRefMutGenericArraySplitGenericArrayMutGenericArrayMut.split as F

pub split_spec : {M : Type 1} → statement M
split_spec 𝓤 𝓛 𝓜 𝓡 wired X N K P A LX LN LK LP LA gL dL gN dN gS dS gK dK gP dP dA boundL boundN boundS boundK boundP
    glue =
    -- N, K and P are the types of the lengths of the array and of its two parts; A and gS come with N
    let lasting : Lft → NamedLft = λ κ. record { mir = named 0; lft = κ } in
    let told = λ (κ : Lft). view_told (lasting κ) 0 X 1 N 4 A gL gN gS LX LN LA in
    let ends : Ended = F.ended X N K P A gL dL gN dN gS dS gK dK gP dP dA in
    let one : Slot 6 = plain (λ κs. LentView (lasting κs.0) 0 X 1 N 4 A gL gN gS) in
    let kept : Stays ends.signature.params ends.kept = (stay_dropped one no, tt) in
    let c = F.clauses X N K P A gL dL gN dN gS dS gK dK gP dP dA 𝓛 𝓜.mem 𝓡.returns in
    let 𝓣 = tables 𝓤 𝓛.H 𝓜 𝓡 𝓡.env in
    let E : RattleType = param 0 X in
    proved 𝓛 ends kept c 𝓜 𝓡 (Goes-blank 𝓛 6 one no (λ κs x f. tt), tt)
    _ _ (code.unfolded 𝓤 𝓛.H 𝓜 𝓡 wired (X, (N, (K, (P, (A, tt))))) dL dN dS dK dP dA)
    (λ κs. (λ x. (told κs.0).val x ∷ [], tt))
    (λ κs. ((told κs.0).tells, tt))
    (λ κs qs bounds a gh are.
    let κ : Lft = κs.0 in let κT : Lft = κs.1.0 in let κN : Lft = κs.1.1.0 in let κK : Lft = κs.1.1.1.0 in
    let κP : Lft = κs.1.1.1.1.0 in let κA : Lft = κs.1.1.1.1.1.0 in
    let L : NamedLft = lasting κ in let R : RattleType = Lent L 0 X 1 N 4 A gL gN gS in
    let One : RattleType = LentView L 0 X 1 N 4 A gL gN gS in
    let Part : RattleType = Slice L 0 X in let Half : RattleType = ArrayView L 0 X 1 N gN in
    let First : RattleType = ArrayView L 0 X 2 K gK in let Second : RattleType = ArrayView L 0 X 3 P gP in
    let Answer : RattleType = Tuple (First ∷ Second ∷ []) in
    let whole_val : Val = (told κ).val a.0 in
    let x = a.0.slice in
    let W = walk_of 𝓛 ends kept c in
    let y : W.Ghost = ((κs, qs, bounds, a, (whole_val ∷ [], tt)), tt) in
    qed 𝓛 (((‵ (flft κ qs.0) ⊛ ‵ (flft κT qs.1.0) ⊛ ‵ (flft κN qs.1.1.0) ⊛ ‵ (flft κK qs.1.1.1.0) ⊛
    ‵ (flft κP qs.1.1.1.1.0) ⊛ ‵ (flft κA qs.1.1.1.1.1.0) ⊛ ‵ ftrue) ⊛
    ‵ (owns (One ∷ []) a (whole_val ∷ [], tt))) ∷ raw (fact 𝓤 (κT ⊑ X.lives)) ∷ raw (fact 𝓤 (κN ⊑ N.lives))
    ∷ raw (fact 𝓤 (κK ⊑ K.lives)) ∷ raw (fact 𝓤 (κP ⊑ P.lives)) ∷ raw (fact 𝓤 (κA ⊑ A.lives))
    ∷ raw (fact 𝓤 (gN.USIZE ≡ gK.USIZE + gP.USIZE)) ∷ []) ∵
    move ! (1 ∷ []) $ heard ! _ (λ lT. move ! (1 ∷ []) $ heard ! _ (λ lN. move ! (1 ∷ []) $ heard ! _ (λ lK.
    move ! (1 ∷ []) $ heard ! _ (λ lP. move ! (1 ∷ []) $ heard ! _ (λ lA. move ! (1 ∷ []) $ heard ! _ (λ sum.
    let good = ((view_laws L 0 X 1 N 4 A gL gN gS LX LN LA).lawful 𝓛).typed a.0 (whole_val ∷ []) are.0 in
    enter ! _ _ _ _ _ $ alloc_all ! (λ l. pass_all ! refl (good.0, tt) $
    -- the reference is taken out of the view
    sets ! (addr ! (from ! (fld ! refl (hop ! (look_in_at ! 1 (sub ! 0 refl (whole !))) (stop !))))) refl (tt, tt) $
    split ! $ move ! (1 ∷ []) $ fsplit ! $ fpick ! (λ vss. fsplit ! $ feq_l ! (λ is_whole. fsplit ! $
    peeks ! R (Is R) (shows 𝓛 R) x vss.0 (λ is_ref.
    rewrite ! 0 (λ (vs : List Val). ‵ (R.own_val x vs))
    (mut_Tells (named 0) κ (Items L 0 X 1 N 4 A gL gN gS) x vss.0 is_ref) refl $
    move ! (1 ∷ 2 ∷ []) $ drop ! $ drop ! $
    -- the array's slice is lent
    nothing ! $ move ! (1 ∷ 0 ∷ []) $ fjoin ! $ move ! (1 ∷ []) $ split3 ! $ move ! (2 ∷ []) $ split3 ! $
    move ! (2 ∷ []) $ split3 ! $
    -- [the tokens of P, A; nothing; the tokens of N, K, κ, T; the reference]
    move ! (5 ∷ 6 ∷ 3 ∷ 1 ∷ 2 ∷ 7 ∷ []) $ group ! 5 $
    calls 𝓛 (lend_contract.ended X N A gL dL gN dN gS dS dA)
    (lend_contract.clauses X N A gL dL gN dN gS dS dA 𝓛 𝓜.mem 𝓡.returns) (κ, (κT, (κN, (κA, tt))))
    (qs.0, (qs.1.0, (qs.1.1.0, (qs.1.1.1.1.1.0, tt)))) bounds (x, tt) (mut_vals x, tt) tt
    (λ s. ‵ (LendsItems E x s) ⊛ raw (fact 𝓤 (s.now ≡ x.now)) ⊛
    raw (fact 𝓤 (length s.now ≡ gN.USIZE)) ⊛ raw (fact 𝓤 (FitsInline gN.USIZE))) ! (framed 𝓤 𝓛.H 𝓜 𝓣)
    (lent.met 𝓤 𝓛 𝓜 𝓡 (code.calls-ga_core::array::GenericArray::as_mut_slice 𝓡.env wired) X N A LX LN LA gL dL gN dN gS
    dS dA boundL boundN boundS glue) (asked 𝓛 lT (asked 𝓛 lN (asked 𝓛 lA (id⊢ 𝓤 _)))) (id⊢ 𝓤 _) (λ v. id⊢ 𝓤 _)
    (and_then ! (get ! refl) (no_more !)) (λ v s.
    move ! (1 ∷ []) $ split3 ! $ move ! (1 ∷ []) $ heard ! _ (λ same. move ! (1 ∷ []) $ split ! $ heard ! _ (λ is_N.
    drop ! $
    -- [the array follows; the slice; the tokens of κ, T, N, A; the tokens of P, K]
    move ! (1 ∷ []) $ peeks ! Part (Is Part) (shows 𝓛 Part) s (v ∷ []) (λ is.
    lands_as ! (ap only is.0.0) refl (tt, (tt, (record { fits = is.0.1.0 }, tt))) $
    rewrite ! 0 (λ (vs : List Val). ‵ (Part.own_val s vs)) is.0.0 refl $
    -- the view of the slice
    nothing ! $ move ! (1 ∷ 0 ∷ []) $ fjoin ! $ move ! (2 ∷ []) $ split3 ! $ move ! (2 ∷ []) $ split3 ! $
    move ! (3 ∷ 4 ∷ 0 ∷ 5 ∷ []) $
    passes X 𝓛 (view_contract.clauses X N gN dN 𝓛 𝓜.mem 𝓡.returns) (κ, (κT, (κN, tt)))
    (qs.0, (qs.1.0, (qs.1.1.0, tt))) (bounds.0, tt) s tt ! (framed 𝓤 𝓛.H 𝓜 𝓣)
    (viewed.met 𝓤 𝓛 𝓜 𝓡 (code.calls-ga_views::view_mut::ViewMut+mut+slice+T+T+N::from_mut_slice 𝓡.env wired) X N LX LN
    gN dN boundN)
    (asks_of 𝓛 lT lN (fact_i 𝓤 _ (emp 𝓤) is_N)) (and_then ! (get ! refl) (no_more !)) (λ u w.
    -- [the view; that it is of the slice; the tokens of κ, T, N; the token of A; nothing; the array follows; the tokens
    -- of P, K]
    move ! (1 ∷ []) $ heard ! _ (λ of_slice. peeks ! Half (Is Half) (shows 𝓛 Half) w (u ∷ []) (λ is_view.
    lands_as ! refl refl (((array_laws L 0 X 1 N gN LX LN).lawful 𝓛).typed w (u ∷ []) is_view).0 $
    -- the view is cut
    nothing ! $ move ! (1 ∷ 0 ∷ []) $ fjoin ! $ move ! (1 ∷ []) $ split3 ! $ move ! (2 ∷ []) $ split ! $
    -- [the token of N; nothing; the tokens of κ, T; the view; the token of A; nothing; the array follows; the tokens of
    -- P, K]
    move ! (2 ∷ 3 ∷ 0 ∷ 9 ∷ 8 ∷ 1 ∷ 4 ∷ []) $ group ! 6 $
    calls 𝓛 (halve_contract.ended X N K P gN dN gK dK gP dP)
    (halve_contract.clauses X N K P gN dN gK dK gP dP 𝓛 𝓜.mem 𝓡.returns) (κ, (κT, (κN, (κK, (κP, tt)))))
    (qs.0, (qs.1.0, (qs.1.1.0, (qs.1.1.1.0, (qs.1.1.1.1.0, tt))))) (bounds.0, tt) (w, tt) (u ∷ [], tt) tt
    (λ r. ‵ (LendsHalves E w.slice r.0.slice r.1.slice) ⊛ raw (fact 𝓤 (r.0.slice.now ≡ take gK.USIZE w.slice.now)) ⊛
    raw (fact 𝓤 (r.1.slice.now ≡ drop_list gK.USIZE w.slice.now))) ! (framed 𝓤 𝓛.H 𝓜 𝓣)
    (halved.met 𝓤 𝓛 𝓜 𝓡 (code.calls-generic_array::sequence::shapes::views::GenericArrayMutSplit::split 𝓡.env wired) X N
    K P LX LN LK LP gN dN gK dK gP dP boundN boundK boundP)
    (asked 𝓛 lT (asked 𝓛 lN (asked 𝓛 lK (asked 𝓛 lP (fact_i 𝓤 _ (emp 𝓤) sum))))) (id⊢ 𝓤 _) (λ u. id⊢ 𝓤 _)
    (and_then ! (get ! refl) (no_more !)) (λ u r.
    move ! (1 ∷ []) $ split3 ! $ move ! (1 ∷ []) $ heard ! _ (λ first_is. move ! (1 ∷ []) $ heard ! _ (λ second_is.
    -- [the slice follows; the views; the tokens of κ, T, N, K, P; the token of A; nothing; the array follows]
    move ! (1 ∷ []) $ peeks ! Answer (Is Answer) (shows 𝓛 Answer) r (u ∷ []) (λ views.
    lands_as ! refl refl (((tuple_laws (First ∷ Second ∷ [])
    (array_laws L 0 X 2 K gK LX LK, (array_laws L 0 X 3 P gP LX LP, tt))).lawful 𝓛).typed r (u ∷ []) views).0 $
    returns ! (look_at ! 0 refl) $ free_all ! refl $
    rewrite ! 1 (λ (s : Part.Denot). ‵ (LendsHalves E s r.0.slice r.1.slice)) of_slice refl $
    move ! (5 ∷ 1 ∷ []) $ use2 𝓛 (‵ (LendsBothParts E x r.0.slice r.1.slice))
    (follows_both_then 𝓛 (Array E 0) (Array E 0) (Array E 0) (Array E 0) (array_with E x) ◌++◌ x.ghost_name s.ghost_name
    r.0.slice.ghost_name r.1.slice.ghost_name) $
    -- [the array follows; the views; the tokens of κ, T, N, K, P; the token of A; nothing]
    move ! (2 ∷ []) $ split3 ! $ move ! (2 ∷ []) $ split3 ! $ move ! (2 ∷ []) $ split ! $
    -- [the token of P; nothing; the tokens of N, K, κ, T; the array follows; the views; the token of A; nothing]
    move ! (4 ∷ 5 ∷ 2 ∷ 3 ∷ 0 ∷ 8 ∷ 1 ∷ []) $ group ! 7 $
    nothing ! $ move ! (0 ∷ 4 ∷ []) $ fjoin ! $
    -- [nothing; all tokens; the array follows; the views]
    use0 𝓛 (raw (fact 𝓤 (r.1.slice.now ≡ drop_list gK.USIZE x.now)))
    (fact_i 𝓤 _ (emp 𝓤) (second_is ∙ ap (drop_list gK.USIZE) (ap (λ (s : Part.Denot). s.now) of_slice ∙ same))) $
    use0 𝓛 (raw (fact 𝓤 (r.0.slice.now ≡ take gK.USIZE x.now)))
    (fact_i 𝓤 _ (emp 𝓤) (first_is ∙ ap (take gK.USIZE) (ap (λ (s : Part.Denot). s.now) of_slice ∙ same))) $
    move ! (3 ∷ 2 ∷ 5 ∷ 4 ∷ []) $
    by ! (leaves 𝓛 ends kept c y u r ((tt, tt), tt) (tt, tt))))))))))))))))))))))))
