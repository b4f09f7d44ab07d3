-- `as_mut_slice` lends all the items of the slice that the inner reference points to, for all of the outer reference's
-- lifetime. The borrow checker shows an `ensures*` only where the body hands on a field or a call's result, so this
-- proof walks the code by hand. Assumes `Logic`.
use Rattle.ga_views.proofs.walks.Names
use Names.{addr, agg, alloc_all, and_then, ap, at_last, await, by, done, emp, ent, enter, feq_i, feq_l, fjoin, fld, Fml}
use Names.{free_all, from, fsplit, get, hop, is, keep, later, length, List, load, Logic, look_at, look_in, look_in_at}
use Names.{move, MutBor, no_more, nothing, of_opd, param, pass_all, pick, qed, RattleType, raw, refl, renamed, returns}
use Names.{rewrite, sem, sep, sets, slice_val, some, split3, stop, sub, through, Ura, use3, whole, !, [], ‵, ℕ, ◌$◌}
use Names.{◌∵◌, ◌∷◌, ◌≡◌}
use Rattle.std.specs.List.{refill}
use Rattle.ga_views.proofs.PartLemmas.{refilled}
use Rattle.ga_views.proofs.walks.PartLoan.{lends_slice, lent_slice}
use Rattle.ga_views.proofs.walks.InnerSlice.{closes_inner, Inner, items_at, lends_inner, opens_inner, slice_lent}
use Rattle.ga_views.proofs.walks.LoanWalk.{Had, Loan, lends}
use Rattle.ga_views.proofs.reborrow.RefMutSliceReborrowSlice.as_mut_slice.Statement.{statement}
use Rattle.ga_views.proofs.reborrow.RefMutSliceReborrowSlice.as_mut_slice.Code as code

module _ (X : RattleType) where
  abbrev loan : Loan
  loan = slice_lent X 1 (λ κs items ns. (ns.0 ≡ length items) ∷ []) (λ κs items ns. refill (length items) items)
      (λ κs items ns. items)

  -- all the items are lent, so no rest is left
  module _ {M : Type 1} {𝓤 : Ura M} (𝓛 : Logic 𝓤) (d : MutBor (List X.Denot)) where
    abbrev written : List X.Denot → List X.Denot
    written = refill (length d.now) d.now

    abbrev stands : List X.Denot → Fml
    stands = items_at (param 0 X) d

    every : ent 𝓤 (sem 𝓛 (stands d.now)) (sep 𝓤 (sem 𝓛 (stands d.now)) (emp 𝓤))
    every = qed 𝓛 (‵ (stands d.now) ∷ []) ∵ nothing ! $ move ! (1 ∷ 0 ∷ []) $ done !

    -- as many items as there were are the refilled list
    keeps : (ws : List X.Denot) → ent 𝓤 (sep 𝓤 (sem 𝓛 (stands ws)) (emp 𝓤)) (sem 𝓛 (stands (written ws)))
    keeps ws =
        qed 𝓛 (‵ (stands ws) ∷ raw (emp 𝓤) ∷ []) ∵ fsplit ! $ feq_l !
        (λ e. feq_i ! ℕ (length ws) (length d.now) e $ fjoin ! $ rewrite ! 0 (λ (l : List X.Denot). ‵ (stands l))
        (refilled (length d.now) d.now ws refl e) refl $ keep ! (0 ∷ []) $ done !)

pub as_mut_slice_spec : {M : Type 1} → statement M
as_mut_slice_spec 𝓤 𝓛 𝓜 𝓡 wired X laws = lends (loan X) 𝓛 𝓜 𝓡 _ _ (code.unfolded 𝓤 𝓛.H 𝓜 𝓡 wired (X, tt))
    (λ κs qs bounds x ns w Post asked fine exits.
    let E : RattleType = param 0 X in let I : RattleType = Inner E κs.1.0 in
    qed 𝓛 (Had (loan X) 𝓛 κs qs x ns) ∵ enter ! _ _ _ _ _ $ alloc_all !
    (λ l. pass_all ! refl ((tt, tt), ((tt, record { fits = fine.0 }), tt)) $ opens_inner ! tt (param 0 X) x (λ rm.
    -- [the inner reference's cell; what it owns; the open borrow, in three entries]
    sets ! (of_opd ! (load ! (through ! refl (fld ! refl (stop !))) (look_in ! 0 (sub ! 1 refl (whole !))))) refl
    (tt, record { fits = rm.0 }) $
    sets ! (addr ! (through ! refl (fld ! refl (hop ! (look_in ! 0 (sub ! 0 refl (whole !))) (stop !))))) refl
    (tt, tt) $
    sets ! (agg ! (and_then ! (get ! refl) (and_then ! (get ! refl) (no_more !)))) refl
    (tt, (tt, (record { fits = rm.0 }, tt))) $
    sets ! (addr ! (from ! (fld ! refl (hop ! (look_in_at ! 5 (sub ! 0 refl (whole !))) (stop !))))) refl (tt, tt) $
    sets ! (is ! (agg ! (and_then ! (get ! refl) (and_then ! (get ! refl) (no_more !))))
    (ap (slice_val x.now.ref_ptr) asked.1)) refl (tt, (tt, (record { fits = rm.0 }, tt))) $
    closes_inner ! tt (param 0 X) x $
    use3 𝓛 (later (some (lent_slice 𝓛 I E (at_last x.now) κs.0 qs.0 x.ghost_name x.now x.now.ref_ptr.1 x.now.now
    (written X 𝓛 x.now) (length x.now.now)))) (lends_inner 𝓛 E κs.0 κs.1.0 qs.0 x bounds.0 rm (λ δ. lends_slice 𝓛 I E
    (at_last x.now) κs.0 qs.0 x.ghost_name (renamed x.now δ) x.now.ref_ptr.1 x.now.now (written X 𝓛 x.now) rm (emp 𝓤)
    (every X 𝓛 x.now) (keeps X 𝓛 x.now))) $ await ! tt $ pick ! (λ δ.
    returns ! (look_at ! 0 refl) $ free_all ! refl $ keep ! (0 ∷ 1 ∷ []) $ split3 ! $ by !
    (exits (slice_val x.now.ref_ptr (length x.now.now)) (renamed x.now δ) refl)))))
