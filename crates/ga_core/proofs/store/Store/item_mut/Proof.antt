-- `item_mut` lends one item of the slice that `as_mut_slice` lends, and the store follows the item. The borrow
-- checker does not follow a loan through a slice to its lender, so this proof walks the code by hand: the slice's
-- pointer gives the item's slot, and then the item is lent, by `ItemLoan`'s `lends_item`. Assumes `Logic`.
use Rattle.ga_views.proofs.walks.Names
use Names.{addr, alloc_all, and_then, ap, arith, await, bin, by, Dict, enter, fld, follows, framed, free_all, get}
use Names.{get_in, get_or, group, is, keep, lands_as, later, layout, learn, length, List, look_at, no_more, pass_all}
use Names.{pick, plain, qed, RattleType, refl, RefMutOf, returns, rewrite, set, sets, size, size_word, some, split3}
use Names.{stop, sub, tables, through, use1, vint, w64, whole, !, [], ‵, ℕ, ◌$◌, ◌*◌, ◌<◌, ◌^◌, ◌∙◌, ◌∵◌, ◌∷◌, ◌≡◌}
use Rattle.ga_core.proofs.walks.LentStore.{calls_slice, loan_of, R, S}
use Rattle.ga_core.proofs.store.Store.item_mut.Code as code
use Rattle.ga_core.proofs.store.Store.item_mut.Statement.{statement}
use Rattle.ga_core.specs.declared.store.Store as store
use Rattle.ga_views.proofs.walks.ItemLoan.{uncapped_fits, lends_item, lent_item, offset_fits, spot, uncapped}
use Rattle.ga_views.proofs.walks.LoanWalk.{Had, lends, Loan}

abbrev loan : (Z X : RattleType) → store.Ghosts Z.Denot X.Denot → Dict → Dict → Loan
loan Z X g d dd = loan_of Z X g d dd 1 (RefMutOf (0 ∷ []) tt (plain (λ _. R Z X g d dd)) (λ _. tt)) (R Z X g d dd)
    (λ κs r. r.ghost_name) (λ κs items ns. ns.0 < length items) (λ κs items ns. set items ns.0)
    (λ κs items ns r. r.now ≡ get_or items ns.0 r.now)

pub item_mut_spec : {M : Type 1} → statement M
item_mut_spec 𝓤 𝓛 𝓜 𝓡 wired Z X LZ LX g d dd met metD =
    lends (loan Z X g d dd) 𝓛 𝓜 𝓡 _ _ (code.unfolded 𝓤 𝓛.H 𝓜 𝓡 wired (Z, (X, tt)) d dd)
    (λ κs qs bounds x ns w Post asked fine exits.
    let E : RattleType = R Z X g d dd in let Store : RattleType = S Z X g d dd in
    let i : ℕ = ns.0 in
    qed 𝓛 (Had (loan Z X g d dd) 𝓛 κs qs x ns) ∵ enter ! _ _ _ _ _ $ alloc_all !
    (λ l. pass_all ! refl ((tt, tt), ((tt, record { fits = fine.0 }), tt)) $
    sets ! (addr ! (through ! refl (stop !))) refl (tt, tt) $
    calls_slice Z X g d dd 𝓛 𝓜.mem 𝓡.returns κs qs bounds x ! (framed 𝓤 𝓛.H 𝓜 (tables 𝓤 𝓛.H 𝓜 𝓡 𝓡.env))
    (met.as_mut_slice dd) asked.0 asked.1.0
    (and_then ! (get ! refl) (no_more !)) (λ v s told.
    let width : ℕ = size (layout X) in
    let within : i < length s.now = omega (arith, asked.1.1, ap length told.2) in
    let offset : i * width < 2 ^ 64 = offset_fits i (length s.now) width (omega (arith, within)) told.1.1 in
    let after : List X.Denot → Store.Denot = λ written. (g.store_with x.now written).0 in
    lands_as ! told.0 refl (tt, (tt, (record { fits = told.1.0 }, tt))) $
    sets ! (is ! (bin ! (get ! refl) (size_word !) (record { fits = uncapped_fits i width offset }))
    (ap (vint w64) (uncapped i width offset))) refl (tt, record { fits = offset }) $
    sets ! (bin ! (get_in ! (fld ! refl (stop !)) (sub ! 0 refl (whole !))) (get ! refl) tt) refl (tt, tt) $
    sets ! (addr ! (through ! refl (stop !))) refl (tt, tt) $
    -- [the slice's last value; its borrow; the token; the store follows the slice; the other tokens]
    group ! 4 $ use1 𝓛 (later (some (lent_item 𝓛 Store E after κs.0 qs.0 x.ghost_name s i)))
    (lends_item 𝓛 Store E after κs.0 qs.0 x.ghost_name s i within) $ await ! tt $ pick !
    (λ y. learn ! (λ read. split3 ! $
    rewrite ! 2 (λ (ends : X.Denot → Store.Denot). ‵ (follows Store E x.ghost_name y.0 ends))
    (λ j w. after (set (told.2 j) i w)) refl $
    returns ! (look_at ! 0 refl) $ free_all ! refl $ keep ! (0 ∷ 1 ∷ 2 ∷ 3 ∷ []) $
    by ! (exits _ (record { ref_ptr = (s.ref_ptr.0, spot E s i); ghost_name = y.0; now = y.1 })
    (read ∙ ap (λ l. get_or l i y.1) told.2)))))))
