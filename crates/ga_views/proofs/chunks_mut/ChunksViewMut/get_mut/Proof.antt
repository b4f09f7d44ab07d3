-- `get_mut` lends the row where there is one, and else gives the rows up as they were. The borrow checker shows no
-- clause on a loan that the answer holds in a view, so this proof walks the code by hand. Assumes `Logic`.
use Rattle.ga_views.proofs.walks.Names
use Names.{a_type, addr, after, agg, alloc_all, and_then, ap, Args, arith, Array, as_fields, at_ret, await, bin, Bor}
use Names.{bounded, branches, by, dcons, dnil, done, drop, emp, ent, enter, env, exec, fact, fact_i, feq_l, first}
use Names.{fjoin, flft, flt_l, Fn, follows, follows_by, follows_if, framed, free_all, fres, fsplit, fsplit3, ftrue, get}
use Names.{GName, Goes-dropped, Goes-spent_ref, group, heard, id⊢, inst_fn, Is, keep, lands_as, later, Laws, leaves}
use Names.{length, Lft, List, lit, lit<, live, Logic, look_at, ltb→lt, meet_⊑_right, move, mut_Tells, mut_vals, MutBor}
use Names.{MutRef, MutSlice, named, NamedLft, nltb→le, no, no_more, nothing, of_list, of_opd, only, owned, owns, param}
use Names.{param_laws, pass_all, peeks, pick, plain, proved, qed, RattleType, raw, refl, RefMutOf, returns, rewrite}
use Names.{sem, sets, sets_last, shows, shr_vals, some, split, split3, stay_dropped, Stays, stop, subst, sym, tables}
use Names.{through, true≢false, ty_int, uint_Makes, uint_Tells, uint_vals, Ura, use0, use1, use2, usize, Val, vint, w64}
use Names.{w8, walk_of, yes, !, [], ‵, ℕ, ⊑_trans, ◌$◌, ◌<◌, ◌∙◌, ◌∵◌, ◌∷◌, ◌≡◌, ◌≤◌, ◌⊑◌, ◌⊛◌}
use Rattle.ga_views.proofs.walks.SharedLoan.{comes_back, lent_shared, lends_shared}
use Rattle.ga_views.proofs.walks.CallStep.{asked, calls}
use Rattle.ga_views.proofs.walks.SliceWalk.{passes}
use Rattle.ga_views.proofs.walks.SliceLaws.{ArrayView, array_laws}
use Rattle.ga_views.proofs.view_mut.ViewMut+mut+slice+T+T+N.from_mut_slice.Met as view_met
use Rattle.ga_views.proofs.chunks_mut.ChunksViewMut.TheLaws as rows_laws
use Rattle.ga_views.proofs.chunks_mut.ChunksViewMut.get_mut.Code as code
use Rattle.ga_views.proofs.chunks_mut.ChunksViewMut.get_mut.Statement.{statement}
use Rattle.ga_views.proofs.chunks_mut.ChunksViewMut.len.Met as len_met
use Rattle.ga_views.proofs.chunks_mut.ChunksViewMut.row_mut.Met as row_met
use Rattle.ga_views.specs.Rows.{chunk_count, row_at, rows as rows_of}
use Rattle.ga_views.specs.ChunksViewMut.{LendsRow, LendsRowIf, row_set}
use Rattle.ga_views.specs.contracts.view_mut.ViewMut+mut+slice+T+T+N.from_mut_slice as view_of
use Rattle.ga_views.specs.contracts.chunks_mut.ChunksViewMut as rows
use Rattle.ga_views.specs.contracts.chunks_mut.ChunksViewMut.get_mut as F
use Rattle.ga_views.specs.contracts.chunks_mut.ChunksViewMut.len as count_of
use Rattle.ga_views.specs.contracts.chunks_mut.ChunksViewMut.row_mut as row_of
use Rattle.ga_views.specs.declared.length.Unsigned as unsigned
use Rattle.ga_views.specs.declared.reborrow.ReborrowSlice as reborrow
use Rattle.std.proofs.VecSteps.Element.{none_of, Some-of}
use Rattle.std.specs.contracts.option.Option as OS
use Rattle.std.specs.Option.{option_map}
use Rattle.std.specs.Prelude.{◌↔◌, IfSome, IsSome, None, Some}
use mathlib.Core.Option as maybe

-- what the rows end as
module _ {M : Type 1} {𝓤 : Ura M} (𝓛 : Logic 𝓤) (R U : RattleType) (x : MutBor R.Denot) (F : U.Denot → R.Denot) where
  some_lends : (γ : GName) → ent 𝓤 (sem 𝓛 (follows R U x.ghost_name γ F))
      (sem 𝓛 (follows_if R U x.ghost_name (maybe.some γ) F x.now))
  unfolding follows_by
  some_lends γ = id⊢ 𝓤 _

  none_lends : (κ : Lft) → ent 𝓤 (sem 𝓛 ((MutRef (named 0) κ R).own_val x (mut_vals x)))
      (sem 𝓛 (follows_if R U x.ghost_name maybe.none F x.now))
  unfolding follows_by
  none_lends κ =
      qed 𝓛 (‵ ((MutRef (named 0) κ R).own_val x (mut_vals x)) ∷ []) ∵ fsplit3 ! $ drop ! $
      use1 𝓛 (‵ (fres x.ghost_name (R.coded.code x.now))) (𝓛.names.obs-res x.ghost_name (R.coded.code x.now)) $ keep !
      (0 ∷ []) $ done !

-- the rows
module _ (S T N : RattleType) (s : reborrow.Ghosts S.Denot T.Denot) (n : unsigned.Ghosts N.Denot) where
  abbrev Rows : RattleType
  Rows = rows.the_row (param 0 S) (param 1 T) (param 2 N) s n

  abbrev Rows-laws : Laws S → Laws T → Laws N → Laws Rows
  Rows-laws LS LT LN = rows_laws.the_row_laws (param 0 S) (param 1 T) (param 2 N) s n (param_laws 0 S LS)
      (param_laws 1 T LT) (param_laws 2 N LN)

pub get_mut_spec : {M : Type 1} → statement M
get_mut_spec 𝓤 𝓛 𝓜 𝓡 wired S T N LS LT LN p pd s sd n nd d metP metS metN metD =
    let ends = F.ended S T N p pd s sd n nd d in
    let R : RattleType = Rows S T N s n in
    let E : RattleType = param 1 T in
    let kept : Stays ends.signature.params ends.kept = (
      stay_dropped (RefMutOf (0 ∷ []) tt (plain (λ _. R)) (λ _. tt)) no,
      (stay_dropped (plain (λ _. usize)) yes, tt),
    ) in
    let c = F.clauses S T N p pd s sd n nd d 𝓛 𝓜.mem 𝓡.returns in
    let 𝓣 = tables 𝓤 𝓛.H 𝓜 𝓡 𝓡.env in
    let key : Args = bounded (a_type ∷ a_type ∷ a_type ∷ []) (S, (T, (N, tt)))
    (dcons pd (dcons sd (dcons nd (dcons d dnil)))) in
    let fn : Fn = inst_fn key code.function in
    proved 𝓛 ends kept c 𝓜 𝓡 (
      Goes-spent_ref 𝓛 4 (0 ∷ []) tt (plain (λ _. R)),
      (Goes-dropped 𝓛 4 (plain (λ _. usize)) yes (λ κs x f. refl), tt),
    )
    (F.Key.name key) fn (code.unfolded 𝓤 𝓛.H 𝓜 𝓡 wired (S, (T, (N, tt))) pd sd nd d)
    (λ κs. (mut_vals, (uint_vals w64, tt))) (λ κs. (mut_Tells (named 0) κs.0 R, (uint_Tells w64, tt)))
    (λ κs qs bounds a gh are.
    let self = a.0 in let i = a.1.0 in let fi = are.1.0.1 in
    let b : ℕ = self.ref_ptr.0 in let o : ℕ = self.ref_ptr.1 in let items = s.items self.now.slice in
    let κ : Lft = κs.0 in let κS : Lft = κs.1.0 in let κT : Lft = κs.1.1.0 in let κN : Lft = κs.1.1.1.0 in
    let lasting : NamedLft = record { mir = named 0; lft = κ } in
    let V : RattleType = ArrayView lasting 1 T 2 N n in
    let set : List T.Denot → R.Denot = row_set (param 0 S) E (param 2 N) s n self.now i in
    let W = walk_of 𝓛 ends kept c in
    let y : W.Ghost = ((κs, qs, bounds, a, (mut_vals self, (vint w64 i ∷ [], tt))), tt) in
    qed 𝓛 (((‵ (flft κ qs.0) ⊛ ‵ (flft κS qs.1.0) ⊛ ‵ (flft κT qs.1.1.0) ⊛ ‵ (flft κN qs.1.1.1.0) ⊛ ‵ ftrue)
    ⊛ ‵ (owns (MutRef (named 0) κ R ∷ usize ∷ []) a (mut_vals self, (vint w64 i ∷ [], tt))))
    ∷ raw (fact 𝓤 (κS ⊑ S.lives)) ∷ raw (fact 𝓤 (κT ⊑ T.lives)) ∷ raw (fact 𝓤 (κN ⊑ N.lives)) ∷ ‵ ftrue ∷ []) ∵
    move ! (1 ∷ []) $ heard ! _ (λ lS. move ! (1 ∷ []) $ heard ! _
    (λ lT. move ! (1 ∷ []) $ heard ! _ (λ lN. move ! (1 ∷ []) $ drop ! $
    split ! $ split3 ! $ move ! (2 ∷ []) $ split3 ! $ move ! (5 ∷ []) $ fsplit ! $ keep ! (0 ∷ 5 ∷ 6 ∷ 2 ∷ 3 ∷ []) $
    enter ! _ _ _ _ _ $ alloc_all ! (λ l. pass_all ! refl ((tt, tt), ((tt, record { fits = fi }), tt)) $
    let En = env fn.locals l in
    -- [the rows; the tokens]
    sets ! (addr ! (through ! refl (stop !))) refl (tt, tt) $
    use2 𝓛 (later (some (lent_shared 𝓛 R κ qs.0 b o self.ghost_name self.now)))
    (lends_shared 𝓛 R κ qs.0 b o self.ghost_name self.now ((Rows-laws S T N s n LS LT LN).shares 𝓛)
    (rows_laws.the_within (param 0 S) E (param 2 N) s n κ (⊑_trans κ κS S.lives bounds.0 lS)
    (⊑_trans κ κT T.lives bounds.1.0 lT) (⊑_trans κ κN N.lives bounds.1.1.0 lN))) $
    await ! tt $ pick ! (λ t. split3 ! $
    -- [the rows, read-only; the new token; the way back; the other tokens]
    let κ' : Lft = t.0 ∷ κ in
    let inside : κ' ⊑ κ = meet_⊑_right (t.0 ∷ []) κ in
    let shown : Bor R.Denot = record { ref_ptr = (b, o); now = self.now } in
    nothing ! $ move ! (1 ∷ 0 ∷ []) $ fjoin ! $ nothing ! $ move ! (2 ∷ 4 ∷ 5 ∷ 6 ∷ 0 ∷ 1 ∷ []) $ group ! 5 $
    calls 𝓛 (count_of.ended S T N s sd n nd d) (count_of.clauses S T N s sd n nd d 𝓛 𝓜.mem 𝓡.returns)
    (κ', (κS, (κT, (κN, tt)))) (t.1, (qs.1.0, (qs.1.1.0, (qs.1.1.1.0, tt)))) (
      ⊑_trans κ' κ κS inside bounds.0,
      (⊑_trans κ' κ κT inside bounds.1.0, (⊑_trans κ' κ κN inside bounds.1.1.0, tt)),
    ) (shown, tt) (shr_vals shown, tt) tt
    (λ m. raw (fact 𝓤 (m ≡ chunk_count n.USIZE items)) ⊛ raw (fact 𝓤 (m ≡ length (rows_of n.USIZE items)))) !
    (framed 𝓤 𝓛.H 𝓜 𝓣) (len_met.met 𝓤 𝓛 𝓜 𝓡
    (code.calls-ga_views::chunks_mut::ChunksViewMut::len 𝓡.env wired) S T N LS LT LN s sd n nd d metS metN metD)
    (asked 𝓛 lS (asked 𝓛 lT (asked 𝓛 lN (id⊢ 𝓤 _)))) (id⊢ 𝓤 _) (λ v. id⊢ 𝓤 _)
    (and_then ! (get ! refl) (no_more !)) (λ v m.
    move ! (1 ∷ []) $ split ! $ heard ! _ (λ is_count. drop ! $ fsplit ! $ feq_l ! (λ is_m. flt_l ! (λ fm.
    lands_as ! (ap only is_m) refl (tt, record { fits = fm }) $
    -- [the tokens; the way back]
    split3 ! $ move ! (2 ∷ []) $ split3 ! $ move ! (2 ∷ []) $ drop ! $ move ! (2 ∷ 4 ∷ []) $
    use2 𝓛 (later (‵ ((MutRef (named 0) κ R).own_val self (mut_vals self)) ⊛ ‵ (flft κ qs.0)))
    (comes_back 𝓛 R κ qs.0 b o self.ghost_name self.now t) $ await ! tt $ split ! $
    -- [the rows; the tokens of κ, of T's lifetime, of N's, of S's]
    sets ! (bin ! (get ! refl) (get ! refl) tt) refl (tt, tt) $
    first ! $ branches ! (get ! refl)
    (λ below.
    let lies : i < chunk_count n.USIZE items = subst (λ (k : ℕ). i < k) is_count (ltb→lt i m below) in
    sets ! (addr ! (through ! refl (stop !))) refl (tt, tt) $
    nothing ! $ owned ! usize (Is usize) (uint_Makes 𝓛 w64) i _ (refl, fi) $ fjoin ! $ move ! (1 ∷ 0 ∷ []) $ fjoin ! $
    nothing ! $ move ! (2 ∷ 5 ∷ 3 ∷ 4 ∷ 0 ∷ 1 ∷ []) $ group ! 5 $
    let Slice : RattleType = MutSlice (named 0) κ E in
    calls 𝓛 (row_of.ended S T N p pd s sd n nd d) (row_of.clauses S T N p pd s sd n nd d 𝓛 𝓜.mem 𝓡.returns) κs qs
    bounds (self, (i, tt)) (mut_vals self, (vint w64 i ∷ [], tt)) tt
    (λ r. ‵ (LendsRow (param 0 S) E (param 2 N) s n self i r) ⊛ raw (fact 𝓤 (r.now ≡ row_at n.USIZE items i)) ⊛ raw
    (fact 𝓤 (length r.now ≡ n.USIZE))) ! (framed 𝓤 𝓛.H 𝓜 𝓣) (row_met.met 𝓤 𝓛 𝓜 𝓡
    (code.calls-ga_views::chunks_mut::ChunksViewMut::row_mut 𝓡.env wired) S T N LS LT LN p pd s sd n nd d metP metS
    metN metD) (asked 𝓛 lS (asked 𝓛 lT (asked 𝓛 lN (fact_i 𝓤 _ (emp 𝓤) lies)))) (id⊢ 𝓤 _) (λ v. id⊢ 𝓤 _)
    (and_then ! (get ! refl) (and_then ! (get ! refl) (no_more !))) (λ v' r. move ! (1 ∷ []) $ split3 ! $
    move ! (1 ∷ []) $ heard ! _ (λ is_row. move ! (1 ∷ []) $ heard ! _ (λ wide.
    -- [what the rows end as; the tokens; the row]
    move ! (1 ∷ []) $ peeks ! Slice (Is Slice) (shows 𝓛 Slice) r (v' ∷ []) (λ told.
    rewrite ! 0 (λ (us : List Val). ‵ (Slice.own_val r us)) told.0.0 refl $
    lands_as ! (ap only told.0.0) refl (tt, (tt, (record { fits = told.0.1.0 }, tt))) $
    nothing ! $ move ! (1 ∷ 0 ∷ []) $ fjoin ! $ move ! (2 ∷ []) $ split3 ! $ move ! (2 ∷ []) $ split3 ! $ move !
    (2 ∷ []) $ drop ! $ move ! (2 ∷ 0 ∷ 1 ∷ 4 ∷ []) $
    passes T 𝓛 (view_of.clauses T N n nd 𝓛 𝓜.mem 𝓡.returns) (κ, (κT, (κN, tt))) (qs.0, (qs.1.1.0, (qs.1.1.1.0, tt)))
    (bounds.1.0, tt) r tt ! (framed 𝓤 𝓛.H 𝓜 𝓣)
    (view_met.met 𝓤 𝓛 𝓜 𝓡 (code.calls-ga_views::view_mut::ViewMut+mut+slice+T+T+N::from_mut_slice 𝓡.env wired) T N LT LN
    n nd metN)
    (asked 𝓛 lT (asked 𝓛 lN (fact_i 𝓤 _ (emp 𝓤) wide))) (and_then ! (get ! refl) (no_more !))
    (λ u w. move ! (1 ∷ []) $ heard ! _ (λ this.
    -- [the view; three tokens; the token of S's lifetime; what the rows end as]
    peeks ! V (Is V) (shows 𝓛 V) w (u ∷ []) (λ is.
    let good = ((array_laws lasting 1 T 2 N n LT LN).lawful 𝓛).typed w (u ∷ []) is in
    let typed = as_fields (ty_int w8 ∷ V.mir) (vint w8 1 ∷ u ∷ []) ((tt, record { fits = lit< tt }), good) in
    let out : Val = live 1 (of_list (u ∷ [])) in
    lands_as ! refl refl good.0 $
    sets_last ! (agg ! (and_then ! (lit ! tt) (and_then ! (get ! refl) (no_more !)))) refl typed $
    exec ! 𝓣.C 𝓣.Λ En (after 4 fn.body) (at_ret En (W.post y)) $ sets ! (of_opd ! (get ! refl)) refl typed $
    use1 𝓛 (‵ ((OS.the_row V).own_val (Some w) (out ∷ []))) (Some-of 𝓛 V w u) $ move ! (3 ∷ []) $
    rewrite ! 0 (λ (γ : GName). ‵ (follows R (Array E 0) self.ghost_name γ set))
    (ap (λ (x : Slice.Denot). x.ghost_name) (sym this)) refl $
    use1 𝓛 (‵ (LendsRowIf (param 0 S) E (param 2 N) s n self i (option_map (λ (x : V.Denot). x.slice) (Some w))))
    (some_lends 𝓛 R (Array E 0) self set w.slice.ghost_name) $
    use0 𝓛 (raw (fact 𝓤 (IfSome (Some w) (λ x. x.slice.now ≡ row_at n.USIZE items i))))
    (fact_i 𝓤 _ (emp 𝓤) (ap (λ (x : Slice.Denot). x.now) this ∙ is_row)) $
    use0 𝓛 (raw (fact 𝓤 (IsSome (Some w) ↔ (i < chunk_count n.USIZE items))))
    (fact_i 𝓤 _ (emp 𝓤) ((λ _. lies), (λ _. refl))) $
    -- [nothing is left of the parameters; the clauses on what the answer is; what the rows end as; the answer; three
    -- tokens; that of S's lifetime]
    nothing ! $ nothing ! $ fjoin ! $ nothing ! $ fjoin ! $ move ! (5 ∷ []) $ split3 ! $ move ! (2 ∷ []) $ split ! $
    move ! (2 ∷ 9 ∷ 3 ∷ 0 ∷ 1 ∷ 4 ∷ 8 ∷ 7 ∷ []) $ group ! 5 $
    returns ! (look_at ! 0 refl) $ free_all ! refl $
    by ! (leaves 𝓛 ends kept c y out (Some w) (tt, (tt, tt)) (tt, (tt, tt)))))))))))
    (λ beyond.
    let out : Val = live 0 (of_list []) in
    let far : chunk_count n.USIZE items ≤ i = subst (λ (k : ℕ). k ≤ i) is_count (nltb→le i m beyond) in
    sets_last ! (agg ! (and_then ! (lit ! tt) (no_more !))) refl (tt, (record { fits = lit< tt }, tt)) $
    exec ! 𝓣.C 𝓣.Λ En (after 4 fn.body) (at_ret En (W.post y)) $ sets ! (of_opd ! (get ! refl)) refl
    (tt, (record { fits = lit< tt }, tt)) $
    use1 𝓛 (‵ (LendsRowIf (param 0 S) E (param 2 N) s n self i None)) (none_lends 𝓛 R (Array E 0) self set κ) $
    use0 𝓛 (raw (fact 𝓤 (IfSome {T = V.Denot} None (λ x. x.slice.now ≡ row_at n.USIZE items i))))
    (fact_i 𝓤 _ (emp 𝓤) tt) $
    use0 𝓛 (raw (fact 𝓤 (IsSome {T = V.Denot} None ↔ (i < chunk_count n.USIZE items))))
    (fact_i 𝓤 _ (emp 𝓤) ((λ is. absurd (true≢false (sym is))), (λ lies. absurd (omega arith)))) $
    use0 𝓛 (‵ ((OS.the_row V).own_val None (out ∷ []))) (none_of 𝓛 V) $
    -- [nothing is left of the parameters; the answer; the clauses on what it is; what the rows end as; the tokens]
    nothing ! $ nothing ! $ fjoin ! $ nothing ! $ fjoin ! $ nothing ! $ move !
    (6 ∷ 9 ∷ 7 ∷ 8 ∷ 0 ∷ 1 ∷ 2 ∷ 5 ∷ []) $ group ! 5 $
    returns ! (look_at ! 0 refl) $ free_all ! refl $
    by ! (leaves 𝓛 ends kept c y out None (tt, (tt, tt)) (tt, (tt, tt))))))))))))))
