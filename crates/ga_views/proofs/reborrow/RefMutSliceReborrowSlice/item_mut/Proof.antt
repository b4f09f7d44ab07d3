-- `item_mut` lends one element of the slice that lies behind the inner reference. The borrow checker
-- does not follow a result through two references, so this proof walks the code by hand: the
-- inner reference is opened and its pointer read, which gives the element's place, and then the
-- element is lent by `ItemLoan`'s `lends_item`.
use Rattle.ga_views.proofs.walks.Names
use Names.{addr, alloc_all, ap, arith, at_last, await, bin, by, enter, fld, free_all, get, get_or, is, keep, later}
use Names.{layout, learn, length, load, look_at, look_in, param, pass_all, pick, plain, qed, RattleType, refl, RefMutOf}
use Names.{renamed, returns, set, sets, size, size_word, some, split3, stop, sub, through, use3, vint, w64, whole, ! }
use Names.{[], ◌$◌, ◌*◌, ◌<◌, ◌^◌, ◌∵◌, ◌∷◌, ◌≡◌}
use Rattle.ga_views.proofs.walks.InnerSlice.{closes_inner, Inner, lends_inner, loan_of, opens_inner}
use Rattle.ga_views.proofs.walks.ItemLoan.{item, lends_item, lent_item, offset_fits, uncapped, uncapped_fits}
use Rattle.ga_views.proofs.walks.LoanWalk.{Had, Loan, lends}
use Rattle.ga_views.proofs.reborrow.RefMutSliceReborrowSlice.item_mut.Code as code
use Rattle.ga_views.proofs.reborrow.RefMutSliceReborrowSlice.item_mut.Statement.{statement}

abbrev loan : RattleType → Loan
loan X = loan_of X 1 (RefMutOf (0 ∷ []) tt (plain (λ _. param 0 X)) (λ _. tt)) (param 0 X) (λ κs r. r.ghost_name)
    (λ κs items ns. (ns.0 < length items) ∷ []) (λ κs items ns item. set items ns.0 item)
    (λ κs items ns r. r.now ≡ get_or items ns.0 r.now)

pub item_mut_spec : {M : Type 1} → statement M
item_mut_spec 𝓤 𝓛 𝓜 𝓡 wired X laws = lends (loan X) 𝓛 𝓜 𝓡 _ _ (code.unfolded 𝓤 𝓛.H 𝓜 𝓡 wired (X, tt))
    (λ κs qs bounds x ns w Post asked fine exits.
    let E : RattleType = param 0 X in let I : RattleType = Inner E κs.1.0 in
    qed 𝓛 (Had (loan X) 𝓛 κs qs x ns) ∵ enter ! _ _ _ _ _ $ alloc_all !
    (λ l. pass_all ! refl ((tt, tt), ((tt, record { fits = fine.0 }), tt)) $ opens_inner ! tt (param 0 X) x (λ rm.
    let offset : ns.0 * size (layout X) < 2 ^ 64 =
    offset_fits ns.0 (length x.now.now) (size (layout X)) (omega (arith, asked.1)) rm.1 in
    -- [the inner reference's cell; what it owns; the open borrow, in three entries]
    sets ! (is ! (bin ! (get ! refl) (size_word !) (record { fits = uncapped_fits ns.0 (size (layout X)) offset }))
    (ap (vint w64) (uncapped ns.0 (size (layout X)) offset))) refl (tt, record { fits = offset }) $
    sets ! (bin ! (load ! (through ! refl (fld ! refl (stop !))) (look_in ! 0 (sub ! 0 refl (whole !))))
    (get ! refl) tt) refl (tt, tt) $
    sets ! (addr ! (through ! refl (stop !))) refl (tt, tt) $
    closes_inner ! tt (param 0 X) x $
    use3 𝓛 (later (some (lent_item 𝓛 I E (at_last x.now) κs.0 qs.0 x.ghost_name x.now ns.0)))
    (lends_inner 𝓛 E κs.0 κs.1.0 qs.0 x bounds.0 rm (λ δ. lends_item 𝓛 I E (at_last x.now) κs.0 qs.0 x.ghost_name
    (renamed x.now δ) ns.0 asked.1)) $ await ! tt $ pick !
    (λ y. learn ! (λ read.
    returns ! (look_at ! 0 refl) $ free_all ! refl $ keep ! (0 ∷ 1 ∷ []) $ split3 ! $
    by ! (exits _ (item 𝓛 I E (at_last x.now) κs.0 qs.0 x.ghost_name x.now ns.0 y) read))))))
