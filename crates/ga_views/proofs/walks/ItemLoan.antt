-- One item of a slice that is lent on. Assumes `Logic`.
--     uncapped, uncapped_fits, offset_fits     how far into the slice the item lies, as the code computes it: an index
--                                              times the item's size, with a size that is too large for a word cut down
--                                              to one
--     spot                                   where it lies
--     lends_item                             it is lent for as long as the slice was, and what lent the slice follows
--                                            it
use Rattle.ga_views.proofs.walks.Names
use Names.{ap, arith, Arr, Array, at_mul, await, Body, capped, check, coded_list, done, ent, ex, fbor, feq_i, fjoin3}
use Names.{flft, fobs, follows, follows_then, get_or, given, GName, guard, heres, heres_id, Holey, Item, later, length}
use Names.{Lft, List, Logic, mem, move, MutBor, MutRef, named, now, pick, qed, RattleType, refl, rewrite, sem, sep, set}
use Names.{Share, show, some, split, split3, SProp, subst, suc, sym, updating, Ura, use2, use3, Val, vptr, zero, !, []}
use Names.{‵, ℕ, ◌$◌, ◌*◌, ◌+◌, ◌<◌, ◌^◌, ◌∙◌, ◌∵◌, ◌∷◌, ◌≡◌, ◌≤◌, ◌⊛◌}
use native.Mathlib.Nat.{mul-le-mul_right, suc-mul, zero-mul}
use borrow.Rule.Slice.AtParam.{inhabits, twice}
use borrow.Rule.Slice.Handed.{takes_at}
use prog.Capped.{capped_is}

-- where the product fits a word, the index is zero or the size fits too
pub uncapped : (i k : ℕ) → i * k < 2 ^ 64 → i * capped k ≡ i * k
uncapped zero k fits = zero-mul (capped k) ∙ sym (zero-mul k)
uncapped (suc i) k fits = let more = suc-mul i k in ap (λ (j : ℕ). suc i * j) (capped_is k (omega arith))

-- so the code's product fits it too
pub uncapped_fits : (i k : ℕ) → i * k < 2 ^ 64 → i * capped k < 2 ^ 64
uncapped_fits i k fits = subst (λ (j : ℕ). j < 2 ^ 64) (sym (uncapped i k fits)) fits

-- the bytes before an item are no more than the slice's
pub offset_fits : (i n k : ℕ) → i ≤ n → n * k < 2 ^ 63 → i * k < 2 ^ 64
offset_fits i n k within room = let fewer : i * k ≤ n * k = mul-le-mul_right k within in omega arith

abbrev pub spot : (R : RattleType) → MutBor (List R.Denot) → ℕ → ℕ
spot R s i = i * (mem R).size + s.ref_ptr.1

-- the slice is s. What lent it, a `From` under the name γ, ends as `after` of the slice's items
module _ {M : Type 1} {𝓤 : Ura M} (𝓛 : Logic 𝓤) (From R : RattleType) (after : List R.Denot → From.Denot) (κ : Lft)
    (q : Share) (γ : GName) (s : MutBor (List R.Denot)) (i : ℕ) where
  open 𝓛 use {H, A}

  abbrev block : ℕ
  block = s.ref_ptr.0

  abbrev place : ℕ
  place = spot R s i

  -- a reference to the item, by its name and its value
  abbrev pub item : GName × R.Denot → MutBor R.Denot
  item y = record { ref_ptr = (block, place); ghost_name = y.0; now = y.1 }

  abbrev written : R.Denot → From.Denot
  written w = after (set s.now i w)

  abbrev pub LentItem : GName × R.Denot → SProp 𝓤
  LentItem y = guard 𝓤 (y.1 ≡ get_or s.now i y.1) (sep 𝓤
      (sem 𝓛 ((MutRef (named 0) κ R).own_val (item y) (vptr block place ∷ [])))
      (sep 𝓤 (A.lft κ q) (sem 𝓛 (follows From R γ y.0 written))))

  abbrev pub lent_item : GName × R.Denot → Item 𝓤
  lent_item y = given (y.1 ≡ get_or s.now i y.1) (‵ ((MutRef (named 0) κ R).own_val (item y) (vptr block place ∷ [])) ⊛
      ‵ (flft κ q) ⊛ ‵ (follows From R γ y.0 written))

  pub lends_item : i < length s.now
      → ent 𝓤 (sep 𝓤 (A.obs s.ghost_name ((coded_list R.coded).code (heres R s.now)))
      (sep 𝓤 (A.bor κ (Body (Arr (Holey (mem R)) (length s.now)) block s.ref_ptr.1 s.ghost_name))
      (sep 𝓤 (A.lft κ q) (sem 𝓛 (follows From (Array R 0) γ s.ghost_name after)))))
      (H.⇛ (ex 𝓤 LentItem))
  lends_item within =
      let any : R.Denot = inhabits s.now i within in
      let y : R.Denot = get_or s.now i any in
      qed 𝓛 (‵ (fobs s.ghost_name ((coded_list R.coded).code (heres R s.now)))
      ∷ ‵ (fbor κ (Body (Arr (Holey (mem R)) (length s.now)) block s.ref_ptr.1 s.ghost_name)) ∷ ‵ (flft κ q)
      ∷ ‵ (follows From (Array R 0) γ s.ghost_name after) ∷ []) ∵
      updating ! $ rewrite ! 0 (λ (l : List R.Denot). ‵ (fobs s.ghost_name ((coded_list R.coded).code l)))
      (heres_id R s.now) refl $
      use3 𝓛 (later (some (λ (δ : GName). ‵ (fobs δ (R.coded.code y)) ⊛ ‵ (fbor κ (Body (mem R) block place δ)) ⊛
      ‵ (flft κ q) ⊛ ‵ (follows (Array R 0) R s.ghost_name δ (set s.now i)))))
      (takes_at 𝓛 (mem R) κ (length s.now) block s.ref_ptr.1 q s.ghost_name s.now i place any y
      (at_mul s.ref_ptr.1 (mem R).size i) within refl) $ await ! tt $ pick ! (λ δ. split3 ! $
      -- [the item's last value; its borrow; the token, and the slice follows the item; what lent the slice follows it]
      move ! (2 ∷ []) $ split ! $ move ! (4 ∷ 1 ∷ []) $
      use2 𝓛 (‵ (follows From R γ δ written)) (follows_then 𝓛 From (Array R 0) R after (set s.now i) γ s.ghost_name δ) $
      move ! (2 ∷ 3 ∷ []) $ feq_i ! (List Val) (vptr block place ∷ []) (vptr block place ∷ []) refl $ fjoin3 ! $ move !
      (0 ∷ 2 ∷ 1 ∷ []) $
      now ! $ show ! LentItem (δ, y) $ check ! (twice s.now i any) $ done !)
