-- `try_from_mut_slice` makes the view where the length is right, and else gives the slice up as it was. The borrow
-- checker shows no clause on a lender that is a slice where the answer is a `Result`, so this proof walks the code by
-- hand. Assumes `Logic`.
use Rattle.ga_views.proofs.walks.Names
use Names.{a_type, addr, after, agg, alloc_all, and_then, ap, Args, Array, as_fields, assume, at_ret, bin, bounded}
use Names.{branches, by, coded_list, dcons, dnil, done, drop, each, emp, ent, enter, env, eqb, eqb_refl, eqb→eq, exec}
use Names.{fact, fact_i, fauth, feq, feq_i, fex, first, fjoin, fld, flft, Fml, Fn, fobs, follows, follows_by}
use Names.{follows_if, fpack, framed, free_all, fres, from, fsep, fsplit, fsplit3, ftrue, get, get_in, GName, group, Gv}
use Names.{heard, heres_id, hop, inst_fn, Is, keep, lands_as, length, Lft, Lifetime, List, lit, lit<, live, Logic}
use Names.{look_at, look_in_at, move, mut_slice_vals, MutBor, MutSlice, named, NamedLft, no_more, nothing, of_list}
use Names.{of_opd, owns, param, pass_all, peeks, qed, RattleType, raw, refl, returns, rewrite, sem, sets, sets_last}
use Names.{shows, split, split3, stop, sub, subst, such_by, sym, T, T_not, tables, true≢false, ty_int, Ura, use0, use1}
use Names.{Val, vint, vnil, vstruct, w8, wand, whole, !, [], ‵, ℕ, ◌$◌, ◌∙◌, ◌∵◌, ◌∷◌, ◌≡◌, ◌⊑◌, ◌⊛◌}
use denote.Shadow.{makes_shadow}
use Rattle.ga_views.proofs.walks.CallStep.{asked}
use Rattle.ga_views.proofs.walks.LengthCall.{calls_length}
use Rattle.ga_views.proofs.walks.SliceWalk.{gives_up, passes}
use Rattle.ga_views.proofs.walks.SliceLaws.{ArrayView, array_laws}
use Rattle.ga_views.proofs.view_mut.ViewMut+mut+slice+T+T+N.from_mut_slice.Met as theirs
use Rattle.ga_views.proofs.view_mut.ViewMut+mut+slice+T+T+N.try_from_mut_slice.Code as code
use Rattle.ga_views.proofs.view_mut.ViewMut+mut+slice+T+T+N.try_from_mut_slice.Statement.{statement}
use Rattle.ga_views.specs.contracts.view_mut.ViewMut+mut+slice+T+T+N.from_mut_slice as callee
use Rattle.ga_views.specs.contracts.view_mut.ViewMut+mut+slice+T+T+N.try_from_mut_slice as F
use Rattle.ga_views.specs.contracts.length_error.LengthError as error
use Rattle.std.proofs.ResultValues.{err_of, ok_of}
use Rattle.std.specs.Borrow.{name_if_ok, RestsIfErr}
use Rattle.std.specs.contracts.result.Result as RS
use Rattle.std.specs.declared.result.Result.{Result}
use Rattle.std.specs.declared.result.Result.TheVariants.{Err, Ok}
use Rattle.std.specs.Prelude.{◌↔◌, IfOk, IsOk, OnErr, OnOk}

-- a slice that is given up stays as it was
module _ {M : Type 1} {𝓤 : Ura M} (𝓛 : Logic 𝓤) (R : RattleType) (s : MutBor (List R.Denot)) where
  given_up : (ℓ : Lifetime) (κ : Lft) (vs : List Val)
      → ent 𝓤 (sem 𝓛 ((MutSlice ℓ κ R).own_val s vs)) (𝓛.A.res s.ghost_name ((Array R 0).coded.code s.now))
  given_up ℓ κ vs =
      qed 𝓛 (‵ ((MutSlice ℓ κ R).own_val s vs) ∷ []) ∵ fsplit3 ! $ drop ! $
      rewrite ! 0 (λ (l : List R.Denot). ‵ (fobs s.ghost_name ((coded_list R.coded).code l))) (heres_id R s.now) refl $
      use1 𝓛 (‵ (fres s.ghost_name ((coded_list R.coded).code s.now)))
      (𝓛.names.obs-res s.ghost_name ((coded_list R.coded).code s.now)) $ keep ! (0 ∷ []) $ done !

-- what the slice ends as
module _ {M : Type 1} {𝓤 : Ura M} (𝓛 : Logic 𝓤) (R : RattleType) (s : MutBor (List R.Denot)) (A E : Type 0)
    (name : A → GName) where
  abbrev Rests : Result A E → Fml
  Rests r = RestsIfErr (Array R 0) s name r (λ rest. rest ≡ s.now)

  abbrev Follows : GName → Fml
  Follows γ = follows (Array R 0) (Array R 0) s.ghost_name γ (λ w. w)

  abbrev Fits : Result A E → Type 0
  Fits r = (t : (List R.Denot → List R.Denot) × List R.Denot) × ((w : List R.Denot) → OnOk r (t.0 w ≡ w))
      × OnErr r (t.1 ≡ s.now)

  abbrev Ends : (r : Result A E) → Fits r → Fml
  Ends r t = follows_if (Array R 0) (Array R 0) s.ghost_name (name_if_ok name r) t.0.0 t.0.1

  -- a name follows itself
  same : ent 𝓤 (emp 𝓤) (sem 𝓛 (Follows s.ghost_name))
  same =
      let code : List R.Denot → Gv = (Array R 0).coded.code in
      let From : List R.Denot → List R.Denot → Fml =
      λ z w. fsep (feq (List R.Denot) z w) (fauth s.ghost_name (code w)) in
      let said = qed 𝓛 [] ∵ each ! (λ (w : List R.Denot). wand 𝓤 (𝓛.A.res s.ghost_name (code w))
      (𝓛.A.res s.ghost_name (code w))) (λ w. assume ! (‵ (fres s.ghost_name (code w))) $ done !) in
      let back = qed 𝓛 [] ∵ each ! (λ (z : List R.Denot). wand 𝓤 (𝓛.A.auth s.ghost_name (code z))
      (sem 𝓛 (fex (List R.Denot) (From z)))) (λ z. assume ! (‵ (fauth s.ghost_name (code z))) $
      feq_i ! (List R.Denot) z z refl $ fjoin ! $ fpack ! (List R.Denot) (From z) z $ done !) in
      record { apply = λ a p. (said.apply a p, back.apply a p) }

  Ok-rests : (x : A) → name x ≡ s.ghost_name → ent 𝓤 (emp 𝓤) (sem 𝓛 (Rests (Ok x)))
  unfolding such_by follows_by
  Ok-rests x e =
      qed 𝓛 [] ∵ use0 𝓛 (‵ (Follows s.ghost_name)) same $ rewrite ! 0 (λ (k : GName). ‵ (Follows k)) (sym e) refl $
      fpack ! (Fits (Ok x)) (Ends (Ok x)) (((λ w. w), s.now), (λ w. refl), tt) $ done !

  Err-rests : (x : E) → ent 𝓤 (𝓛.A.res s.ghost_name ((Array R 0).coded.code s.now)) (sem 𝓛 (Rests (Err x)))
  unfolding such_by follows_by
  Err-rests x =
      qed 𝓛 (‵ (fres s.ghost_name ((Array R 0).coded.code s.now)) ∷ []) ∵
      fpack ! (Fits (Err x)) (Ends (Err x)) (((λ w. w), s.now), (λ w. tt), refl) $ done !

pub try_from_mut_slice_spec : {M : Type 1} → statement M
try_from_mut_slice_spec 𝓤 𝓛 𝓜 𝓡 wired X N LX LN g d bound =
    let 𝓣 = tables 𝓤 𝓛.H 𝓜 𝓡 𝓡.env in
    let key : Args = bounded (a_type ∷ a_type ∷ []) (X, (N, tt)) (dcons d dnil) in
    let fn : Fn = inst_fn key code.function in
    gives_up 2 X 𝓛 (F.clauses X N g d 𝓛 𝓜.mem 𝓡.returns) 𝓜 𝓡 (F.Key.name key) fn
    (code.unfolded 𝓤 𝓛.H 𝓜 𝓡 wired (X, (N, tt)) d) (λ κs qs bounds s gh fits Post leave.
    let n : ℕ = length s.now in
    let κ : Lft = κs.0 in let κT : Lft = κs.1.0 in let κN : Lft = κs.1.1.0 in
    let tokens = ‵ (flft κ qs.0) ⊛ ‵ (flft κT qs.1.0) ⊛ ‵ (flft κN qs.1.1.0) ⊛ ‵ ftrue in
    let E : RattleType = param 0 X in let S : RattleType = MutSlice (named 0) κ E in
    let lasting : NamedLft = record { mir = named 0; lft = κ } in
    let V : RattleType = ArrayView lasting 0 X 1 N g in
    let Refusal : RattleType = error.the_row in
    let Answer : RattleType = RS.the_row V Refusal in
    let name : V.Denot → GName = λ answer. answer.slice.ghost_name in
    qed 𝓛 ((tokens ⊛ ‵ (owns (S ∷ []) (s, tt) (mut_slice_vals s, tt)))
    ∷ raw (fact 𝓤 (κT ⊑ X.lives)) ∷ raw (fact 𝓤 (κN ⊑ N.lives)) ∷ ‵ ftrue ∷ []) ∵
    move ! (1 ∷ []) $ heard ! _ (λ lT. move ! (1 ∷ []) $ heard ! _ (λ lN. move ! (1 ∷ []) $ drop ! $
    split ! $ split3 ! $
    enter ! _ _ _ _ _ $ alloc_all ! (λ l. pass_all ! refl ((tt, (tt, (record { fits = fits }, tt))), tt) $
    let En = env fn.locals l in
    -- [the tokens, that of N's lifetime last; the slice]
    sets ! (of_opd ! (get_in ! (fld ! refl (stop !)) (sub ! 1 refl (whole !)))) refl (tt, record { fits = fits }) $
    move ! (2 ∷ []) $ calls_length N g d 𝓛 𝓜.mem 𝓡.returns ! (framed 𝓤 𝓛.H 𝓜 𝓣) bound.USIZE κN qs.1.1.0 lN
    (λ m is_length fm. drop ! $
    lands_as ! refl refl (tt, record { fits = fm }) $
    sets ! (bin ! (get ! refl) (get ! refl) tt) refl (tt, tt) $
    first ! $ branches ! (get ! refl)
    (λ equal.
    let of_length : n ≡ g.USIZE = eqb→eq n m equal ∙ is_length in
    sets ! (addr ! (from ! (fld ! refl (hop ! (look_in_at ! 1 (sub ! 0 refl (whole !))) (stop !))))) refl (tt, tt) $
    sets ! (agg ! (and_then ! (get ! refl) (and_then ! (get_in ! (fld ! refl (stop !)) (sub ! 1 refl (whole !)))
    (no_more !)))) refl (tt, (tt, (record { fits = fits }, tt))) $
    split ! $ move ! (1 ∷ []) $ drop ! $ move ! (1 ∷ 2 ∷ 0 ∷ 3 ∷ []) $
    passes X 𝓛 (callee.clauses X N g d 𝓛 𝓜.mem 𝓡.returns) κs qs bounds s tt ! (framed 𝓤 𝓛.H 𝓜 𝓣)
    (theirs.met 𝓤 𝓛 𝓜 𝓡 (code.calls-ga_views::view_mut::ViewMut+mut+slice+T+T+N::from_mut_slice 𝓡.env wired) X N LX LN g
    d bound)
    (asked 𝓛 lT (asked 𝓛 lN (fact_i 𝓤 _ (emp 𝓤) of_length))) (and_then ! (get ! refl) (no_more !))
    (λ u w. move ! (1 ∷ []) $ heard ! _ (λ this.
    -- [the view; the tokens]
    peeks ! V (Is V) (shows 𝓛 V) w (u ∷ []) (λ is.
    let good = ((array_laws lasting 0 X 1 N g LX LN).lawful 𝓛).typed w (u ∷ []) is in
    let typed = as_fields (ty_int w8 ∷ V.mir) (vint w8 0 ∷ u ∷ []) ((tt, record { fits = lit< tt }), good) in
    let out : Val = live 0 (of_list (u ∷ [])) in
    lands_as ! refl refl good.0 $
    sets_last ! (agg ! (and_then ! (lit ! tt) (and_then ! (get ! refl) (no_more !)))) refl typed $
    exec ! 𝓣.C 𝓣.Λ En (after 4 fn.body) (at_ret En Post) $ sets ! (of_opd ! (get ! refl)) refl typed $
    use1 𝓛 (‵ (Answer.own_val (Ok w) (out ∷ []))) (ok_of 𝓛 V Refusal w u) $
    use0 𝓛 (raw (fact 𝓤 (IfOk {E = Refusal.Denot} (Ok w) (λ answer. answer.slice ≡ s)))) (fact_i 𝓤 _ (emp 𝓤) this) $
    use0 𝓛 (raw (fact 𝓤 (IsOk {E = Refusal.Denot} (Ok w) ↔ (n ≡ g.USIZE))))
    (fact_i 𝓤 _ (emp 𝓤) ((λ _. of_length), (λ _. refl))) $
    use0 𝓛 (‵ (Rests 𝓛 E s V.Denot Refusal.Denot name (Ok w)))
    (Ok-rests 𝓛 E s V.Denot Refusal.Denot name w (ap (λ (x : S.Denot). x.ghost_name) this)) $
    -- [nothing is left of the parameter; the answer, the clauses and the tokens in the order in which they came]
    nothing ! $ nothing ! $ fjoin ! $
    returns ! (look_at ! 0 refl) $ free_all ! refl $ move ! (5 ∷ 0 ∷ 4 ∷ []) $
    by ! (leave out (Ok w))))))
    (λ differ.
    let e : Refusal.Denot = record {} in
    let out : Val = live 1 (of_list (vstruct vnil ∷ [])) in
    let unfit : n ≡ g.USIZE → ⊥ = λ eq. T_not (eqb n m) differ
    (subst (λ (j : ℕ). T (eqb n j)) (eq ∙ sym is_length) (eqb_refl n)) in
    -- [the token of N's lifetime; the two others; the slice]
    sets ! (agg ! (no_more !)) refl (tt, tt) $
    sets_last ! (agg ! (and_then ! (lit ! tt) (and_then ! (get ! refl) (no_more !)))) refl
    (tt, (record { fits = lit< tt }, (tt, tt))) $
    exec ! 𝓣.C 𝓣.Λ En (after 4 fn.body) (at_ret En Post) $ sets ! (of_opd ! (get ! refl)) refl
    (tt, (record { fits = lit< tt }, (tt, tt))) $
    move ! (1 ∷ 2 ∷ 0 ∷ []) $ group ! 3 $ move ! (1 ∷ []) $ fsplit ! $
    use1 𝓛 (‵ (fres s.ghost_name ((Array E 0).coded.code s.now))) (given_up 𝓛 E s (named 0) κ (mut_slice_vals s)) $
    use1 𝓛 (‵ (Rests 𝓛 E s V.Denot Refusal.Denot name (Err e))) (Err-rests 𝓛 E s V.Denot Refusal.Denot name e) $
    move ! (1 ∷ []) $ drop ! $
    use0 𝓛 (raw (fact 𝓤 (IfOk {T = V.Denot} (Err e) (λ answer. answer.slice ≡ s)))) (fact_i 𝓤 _ (emp 𝓤) tt) $
    use0 𝓛 (raw (fact 𝓤 (IsOk {T = V.Denot} (Err e) ↔ (n ≡ g.USIZE))))
    (fact_i 𝓤 _ (emp 𝓤) ((λ is. absurd (true≢false (sym is))), (λ eq. absurd (unfit eq)))) $
    move ! (2 ∷ []) $
    let owned : Fml = Refusal.own_val e (vstruct vnil ∷ []) in
    use0 𝓛 (‵ owned) (makes_shadow 𝓛 owned (λ vss. (tt, tt)) (tt, (refl, tt))) $
    use1 𝓛 (‵ (Answer.own_val (Err e) (out ∷ []))) (err_of 𝓛 V Refusal e (vstruct vnil)) $
    -- [nothing is left of the parameter; the answer, the clauses and the tokens in the order in which they came]
    nothing ! $ nothing ! $ fjoin ! $
    returns ! (look_at ! 0 refl) $ free_all ! refl $ move ! (5 ∷ 0 ∷ 1 ∷ []) $
    by ! (leave out (Err e))))))))
