-- A `&κ mut T` is lent as a `&T` for a while, and comes back as it was. Assumes `Logic`.
--     lends_shared     the `&T`, at a new lifetime within κ, and its token
--     comes_back       whoever gives that token back has the `&κ mut T` and the token of κ
use Rattle.ga_views.proofs.walks.Names
use Names.{apply∗, assume, await, close_ref, done, ent, ex, fdead, feq_i, feq_l, fjoin3, flent, flft, Fml, frame}
use Names.{fsplit3, full_share, GName, Incl-refl, Item, later, Lft, List, Logic, meet_⊑_left, meet_⊑_right, mem, move}
use Names.{MutRef, named, now, open_ref, part_at, qed, RattleType, raw, refl, sem, sep, Share, show, ShrRef, split}
use Names.{SProp, updating, Ura, use1, use2, Val, vptr, wand, !, [], ‵, ℕ, ⊑_trans, ◌$◌, ◌∵◌, ◌∷◌, ◌⊑◌, ◌⊛◌}
use base.FractionLaws.{common}
use types.Tokens.{lent_back, lft-common, lft_end, lft_new}
use denote.Lend.{lends_shr}
use denote.Shares.{Shares}
use base.Share

-- the reference points to (b, o), its name is γ, and what it shows is x
module _ {M : Type 1} {𝓤 : Ura M} (𝓛 : Logic 𝓤) (R : RattleType) (κ : Lft) (q : Share) (b o : ℕ) (γ : GName)
    (x : R.Denot) where
  open 𝓛 use {H, A}

  abbrev pub Whole : Fml
  Whole = (MutRef (named 0) κ R).own_val (record { ref_ptr = (b, o); ghost_name = γ; now = x }) (vptr b o ∷ [])

  -- the new lifetime's own part, and the share of its token
  abbrev pub Shared : ℕ × Share → Fml
  Shared t = (ShrRef (named 0) (t.0 ∷ κ) R).own_val (record { ref_ptr = (b, o); now = x }) (vptr b o ∷ [])

  abbrev pub Back : ℕ × Share → SProp 𝓤
  Back t = wand 𝓤 (A.lft (t.0 ∷ κ) t.1) (H.⇛ (sep 𝓤 (sem 𝓛 Whole) (A.lft κ q)))

  abbrev LentShared : ℕ × Share → SProp 𝓤
  LentShared t = sep 𝓤 (sem 𝓛 (Shared t)) (sep 𝓤 (A.lft (t.0 ∷ κ) t.1) (Back t))

  abbrev pub lent_shared : ℕ × Share → Item 𝓤
  lent_shared t = ‵ (Shared t) ⊛ ‵ (flft (t.0 ∷ κ) t.1) ⊛ raw (Back t)

  pub lends_shared : Shares 𝓛 R R.lives → κ ⊑ R.lives → ent 𝓤 (sep 𝓤 (sem 𝓛 Whole) (A.lft κ q)) (H.⇛ (ex 𝓤 LentShared))
  lends_shared shares lives =
      qed 𝓛 (‵ Whole ∷ ‵ (flft κ q) ∷ []) ∵ updating ! $ move ! (1 ∷ []) $
      use1 𝓛 (‵ (flft κ (Share.left q)) ⊛ ‵ (flft κ (Share.right q))) (𝓛.lfts.lft_split κ q) $ split ! $ move !
      (1 ∷ []) $ lft_new ! tt (λ a.
      let within = meet_⊑_right (a ∷ []) κ in
      let r : Share = (common full_share (Share.right q)).0 in
      let Both : SProp 𝓤 = sep 𝓤 (A.lft (a ∷ []) full_share) (A.lft κ (Share.right q)) in
      use2 𝓛 (‵ (flft (a ∷ κ) r) ⊛ raw (wand 𝓤 (A.lft (a ∷ κ) r) Both))
      (lft-common 𝓛 (a ∷ []) κ full_share (Share.right q)) $ split ! $
      -- [the new token; its way back; the other half of κ's token; the reference]
      move ! (3 ∷ 2 ∷ []) $ fsplit3 ! $ feq_l ! (λ _. open_ref ! tt (mem R) $
      -- [what the reference shows; the open borrow; obs; auth; the new token; its way back]
      move ! (0 ∷ 4 ∷ []) $ use2 𝓛
      (later ((‵ (Shared (a, r)) ⊛ ‵ (flent (a ∷ κ) (part_at R full_share x b o))) ⊛ ‵ (flft (a ∷ κ) r)))
      (lends_shr 𝓛 R (named 0) (a ∷ κ) full_share x b o R.lives (shares x) ((a ∷ κ, r) ∷ [])
      (⊑_trans (a ∷ κ) κ R.lives within lives) (Incl-refl (a ∷ κ))) $
      await ! tt $ split ! $ split ! $
      -- [the `&`; the lender's right; the new token; the open borrow; obs; auth; the token's way back]
      move ! (0 ∷ 2 ∷ []) $ now ! $ show ! LentShared (a, r) $ frame ! $ frame ! $ assume !
      (‵ (flft (a ∷ κ) r)) $ updating ! $
      move ! (0 ∷ 5 ∷ []) $ use2 𝓛 (‵ (flft (a ∷ []) full_share) ⊛ ‵ (flft κ (Share.right q)))
      (apply∗ 𝓤 (A.lft (a ∷ κ) r) Both) $ split ! $ lft_end ! tt $
      use1 𝓛 (‵ (fdead (a ∷ κ))) (𝓛.lfts.dead-incl (a ∷ κ) (a ∷ []) (meet_⊑_left (a ∷ []) κ)) $ move !
      (0 ∷ 2 ∷ []) $ lent_back ! tt $
      -- [what the reference shows; half of κ's token; the open borrow; obs; auth]
      move ! (0 ∷ 2 ∷ 3 ∷ 4 ∷ []) $ close_ref ! tt (mem R) x $ feq_i ! (List Val) (vptr b o ∷ [])
      (vptr b o ∷ []) refl $ fjoin3 ! $ move ! (1 ∷ 2 ∷ []) $
      use2 𝓛 (‵ (flft κ q)) (𝓛.lfts.lft_join κ q) $ move ! (1 ∷ 0 ∷ []) $ now ! $ done !))

  pub comes_back : (t : ℕ × Share) → ent 𝓤 (sep 𝓤 (A.lft (t.0 ∷ κ) t.1) (Back t))
      (H.⇛ (sep 𝓤 (sem 𝓛 Whole) (A.lft κ q)))
  comes_back t = apply∗ 𝓤 (A.lft (t.0 ∷ κ) t.1) (H.⇛ (sep 𝓤 (sem 𝓛 Whole) (A.lft κ q)))
