-- `part_mut` lends a part of the slice that the inner reference points to, for all of the outer reference's lifetime.
-- The borrow checker shows an `ensures*` only where the body hands on a field or a call's result, so this proof walks
-- the code by hand: the inner reference is opened and read, which gives the part's place, and then the part is lent
-- by `PartLoan`'s `lends_part`. Assumes `Logic`.
use Rattle.ga_views.proofs.walks.Names
use Names.{addr, agg, alloc_all, and_then, ap, arith, at_last, await, bin, by, drop_list, enter, fld, free_all, get}
use Names.{get_in, hop, is, keep, later, layout, length, load, look_at, look_in, no_more, of_opd, param, pass_all, pick}
use Names.{qed, RattleType, refl, renamed, returns, sets, size, size_word, some, split3, stop, sub, take, through, use3}
use Names.{vint, w64, whole, !, [], ℕ, ◌$◌, ◌*◌, ◌+◌, ◌-◌, ◌<◌, ◌^◌, ◌∵◌, ◌∷◌, ◌≡◌, ◌≤◌}
use Rattle.std.specs.List.{refill}
use Rattle.ga_views.proofs.walks.PartLoan.{lends_part, lent_part, slice}
use Rattle.ga_views.proofs.walks.InnerSlice.{closes_inner, Inner, lends_inner, opens_inner, slice_lent}
use Rattle.ga_views.proofs.walks.ItemLoan.{uncapped_fits, offset_fits, uncapped}
use Rattle.ga_views.proofs.walks.LoanWalk.{Had, Loan, lends}
use Rattle.ga_views.specs.Parts.{part_set}
use Rattle.ga_views.proofs.reborrow.RefMutSliceReborrowPart.part_mut.Code as code
use Rattle.ga_views.proofs.reborrow.RefMutSliceReborrowPart.part_mut.Statement.{statement}

abbrev loan : RattleType → Loan
loan X = slice_lent X 2 (λ κs items ns. (ns.0 + ns.1.0 ≤ length items) ∷ [])
    (λ κs items ns part. refill (length items) items (part_set ns.0 ns.1.0 items part))
    (λ κs items ns. take ns.1.0 (drop_list ns.0 items))

pub part_mut_spec : {M : Type 1} → statement M
part_mut_spec 𝓤 𝓛 𝓜 𝓡 wired X laws = lends (loan X) 𝓛 𝓜 𝓡 _ _ (code.unfolded 𝓤 𝓛.H 𝓜 𝓡 wired (X, tt))
    (λ κs qs bounds x ns w Post asked fine exits.
    let E : RattleType = param 0 X in let I : RattleType = Inner E κs.1.0 in
    let s : ℕ = size (layout X) in let fits : ns.1.0 < 2 ^ 64 = fine.1.0 in
    qed 𝓛 (Had (loan X) 𝓛 κs qs x ns) ∵ enter ! _ _ _ _ _ $ alloc_all !
    (λ l. pass_all ! refl ((tt, tt), ((tt, record { fits = fine.0 }), ((tt, record { fits = fine.1.0 }), tt))) $
    opens_inner ! tt (param 0 X) x (λ rm.
    let offset : ns.0 * s < 2 ^ 64 = offset_fits ns.0 (length x.now.now) s (omega (arith, asked.1)) rm.1 in
    let end : ns.0 + ns.1.0 < 2 ^ 64 = omega (arith, rm.0, asked.1) in
    let width : (ns.0 + ns.1.0) - ns.0 ≡ ns.1.0 = omega arith in
    -- [the inner reference's cell; what it owns; the open borrow, in three entries]
    sets ! (of_opd ! (load ! (through ! refl (fld ! refl (stop !))) (look_in ! 0 (sub ! 1 refl (whole !))))) refl
    (tt, record { fits = rm.0 }) $
    sets ! (addr ! (through ! refl (fld ! refl (hop ! (look_in ! 0 (sub ! 0 refl (whole !))) (stop !))))) refl
    (tt, tt) $
    sets ! (agg ! (and_then ! (get ! refl) (and_then ! (get ! refl) (no_more !)))) refl
    (tt, (tt, (record { fits = rm.0 }, tt))) $
    sets ! (bin ! (get ! refl) (get ! refl) (record { fits = end })) refl (tt, record { fits = end }) $
    sets ! (is ! (bin ! (get ! refl) (size_word !) (record { fits = uncapped_fits ns.0 s offset }))
    (ap (vint w64) (uncapped ns.0 s offset))) refl (tt, record { fits = offset }) $
    sets ! (bin ! (get_in ! (fld ! refl (stop !)) (sub ! 0 refl (whole !))) (get ! refl) tt) refl (tt, tt) $
    sets ! (is ! (bin ! (get ! refl) (get ! refl) (omega arith)) (ap (vint w64) width)) refl
    (tt, record { fits = fits }) $
    sets ! (addr ! (through ! refl (stop !))) refl (tt, tt) $
    sets ! (agg ! (and_then ! (get ! refl) (and_then ! (get ! refl) (no_more !)))) refl
    (tt, (tt, (record { fits = fits }, tt))) $
    closes_inner ! tt (param 0 X) x $
    use3 𝓛 (later (some (lent_part 𝓛 I E (at_last x.now) κs.0 qs.0 x.ghost_name x.now ns.0 ns.1.0 ns.1.0)))
    (lends_inner 𝓛 E κs.0 κs.1.0 qs.0 x bounds.0 rm (λ δ. lends_part 𝓛 I E (at_last x.now) κs.0 qs.0 x.ghost_name
    (renamed x.now δ) ns.0 ns.1.0 asked.1 rm)) $ await ! tt $ pick ! (λ δ.
    returns ! (look_at ! 0 refl) $ free_all ! refl $ keep ! (0 ∷ 1 ∷ []) $ split3 ! $
    by ! (exits _ (slice 𝓛 I E (at_last x.now) κs.0 qs.0 x.ghost_name x.now ns.0 ns.1.0 δ) refl)))))
