-- `part_mut` lends a part of the slice that `as_mut_slice` lends, and the store follows the part. The borrow checker
-- does not follow a loan through a slice to its lender, so this proof walks the code by hand: the slice's pointer
-- gives the part's place, and then the part is lent, by `PartLoan`'s `lends_part`. Assumes `Logic`.
use Rattle.ga_views.proofs.walks.Names
use Names.{addr, agg, alloc_all, and_then, ap, arith, Array, await, bin, by, Dict, drop_list, enter, fld, follows}
use Names.{framed, free_all, get, get_in, group, is, keep, lands_as, later, layout, length, List, look_at, no_more}
use Names.{pass_all, pick, plain, qed, RattleType, refl, returns, rewrite, sets, size, size_word, SliceRefMutOf, some}
use Names.{split3, stop, sub, tables, take, through, use1, vint, w64, whole, !, [], ‵, ℕ, ◌$◌, ◌*◌, ◌+◌, ◌-◌, ◌<◌, ◌^◌}
use Names.{◌∙◌, ◌∵◌, ◌∷◌, ◌≡◌, ◌≤◌}
use Rattle.ga_core.proofs.walks.LentStore.{calls_slice, loan_of, R, S}
use Rattle.ga_core.proofs.store.Store.part_mut.Code as code
use Rattle.ga_core.proofs.store.Store.part_mut.Statement.{statement}
use Rattle.ga_core.specs.declared.store.Store as store
use Rattle.ga_views.proofs.walks.ItemLoan.{offset_fits, uncapped, uncapped_fits}
use Rattle.ga_views.proofs.walks.LoanWalk.{Had, lends, Loan}
use Rattle.ga_views.proofs.PartLemmas.{part_fills}
use Rattle.ga_views.proofs.walks.PartLoan.{lends_part, lent_part, slice}
use Rattle.ga_views.specs.Parts.{part_set}

abbrev loan : (Z X : RattleType) → store.Ghosts Z.Denot X.Denot → Dict → Dict → Loan
loan Z X g d dd = loan_of Z X g d dd 2 (SliceRefMutOf (0 ∷ []) tt (plain (λ _. R Z X g d dd)) (λ _. tt))
    (Array (R Z X g d dd) 0) (λ κs r. r.ghost_name) (λ κs items ns. ns.0 + ns.1.0 ≤ length items)
    (λ κs items ns part. part_set ns.0 ns.1.0 items part) (λ κs items ns r. r.now ≡ take ns.1.0 (drop_list ns.0 items))

pub part_mut_spec : {M : Type 1} → statement M
part_mut_spec 𝓤 𝓛 𝓜 𝓡 wired Z X LZ LX g d dd met metD =
    lends (loan Z X g d dd) 𝓛 𝓜 𝓡 _ _ (code.unfolded 𝓤 𝓛.H 𝓜 𝓡 wired (Z, (X, tt)) d dd)
    (λ κs qs bounds x ns w Post asked fine exits.
    let E : RattleType = R Z X g d dd in let Store : RattleType = S Z X g d dd in
    let from : ℕ = ns.0 in let len : ℕ = ns.1.0 in
    qed 𝓛 (Had (loan Z X g d dd) 𝓛 κs qs x ns) ∵ enter ! _ _ _ _ _ $ alloc_all !
    (λ l. pass_all ! refl ((tt, tt), ((tt, record { fits = fine.0 }), ((tt, record { fits = fine.1.0 }), tt))) $
    sets ! (addr ! (through ! refl (stop !))) refl (tt, tt) $
    calls_slice Z X g d dd 𝓛 𝓜.mem 𝓡.returns κs qs bounds x ! (framed 𝓤 𝓛.H 𝓜 (tables 𝓤 𝓛.H 𝓜 𝓡 𝓡.env))
    (met.as_mut_slice dd) asked.0 asked.1.0
    (and_then ! (get ! refl) (no_more !)) (λ v s told.
    let width : ℕ = size (layout X) in
    let within : from + len ≤ length s.now = omega (arith, asked.1.1, ap length told.2) in
    let offset : from * width < 2 ^ 64 = offset_fits from (length s.now) width (omega (arith, within)) told.1.1 in
    let end : from + len < 2 ^ 64 = omega (arith, within, told.1.0) in
    let long : from + len - from ≡ len = omega arith in
    let after : List X.Denot → Store.Denot = λ written. (g.store_with x.now written).0 in
    lands_as ! told.0 refl (tt, (tt, (record { fits = told.1.0 }, tt))) $
    sets ! (bin ! (get ! refl) (get ! refl) (record { fits = end })) refl (tt, record { fits = end }) $
    sets ! (is ! (bin ! (get ! refl) (size_word !) (record { fits = uncapped_fits from width offset }))
    (ap (vint w64) (uncapped from width offset))) refl (tt, record { fits = offset }) $
    sets ! (bin ! (get_in ! (fld ! refl (stop !)) (sub ! 0 refl (whole !))) (get ! refl) tt) refl (tt, tt) $
    sets ! (is ! (bin ! (get ! refl) (get ! refl) (omega arith)) (ap (vint w64) long)) refl
    (tt, record { fits = fine.1.0 }) $
    sets ! (addr ! (through ! refl (stop !))) refl (tt, tt) $
    sets ! (agg ! (and_then ! (get ! refl) (and_then ! (get ! refl) (no_more !)))) refl
    (tt, (tt, (record { fits = fine.1.0 }, tt))) $
    -- [the slice's last value; its borrow; the token; the store follows the slice; the other tokens]
    group ! 4 $ use1 𝓛 (later (some (lent_part 𝓛 Store E after κs.0 qs.0 x.ghost_name s from len len)))
    (lends_part 𝓛 Store E after κs.0 qs.0 x.ghost_name s from len within told.1) $ await ! tt $ pick !
    (λ δ. split3 ! $
    rewrite ! 2 (λ (ends : List X.Denot → Store.Denot). ‵ (follows Store (Array E 0) x.ghost_name δ ends))
    (λ j ws. after ((part_fills from len s.now ws within ∙ ap (λ l. part_set from len l ws) told.2) j)) refl $
    returns ! (look_at ! 0 refl) $ free_all ! refl $ keep ! (0 ∷ 1 ∷ 2 ∷ 3 ∷ []) $
    by ! (exits _ (slice 𝓛 Store E after κs.0 qs.0 x.ghost_name s from len δ)
    (ap (λ l. take len (drop_list from l)) told.2))))))
