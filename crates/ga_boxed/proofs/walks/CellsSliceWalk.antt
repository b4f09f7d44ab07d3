-- The code of `slice` and `slice_mut`, which is the same but for `mut`. It makes a slice's machine value, and its walk
-- is given how the items are lent. Assumes `Logic`.
use Rattle.ga_boxed.proofs.walks.Names
use Names.{ !, [], after, agg, aggregate, alloc_all, and_then, ap, assign, at_ret, bin, block, block_ptr, blocks, by}
use Names.{Call, Calls, copy, El, elτ, ent, enter, Env, env, erased, exec, fat, field, first, fld, Fn, free_all}
use Names.{full_share, get, get_in, give_at, Go, Goal, is, Item, keep, layout, length, Lfts, List, local, Logic}
use Names.{look_at, Loops, mean, mul, Mutability, named, no, no_more, number, of_opd, offset, op2, pass_all, place, Ptr}
use Names.{qed, refl, return, returns, rewrite, rv_opd, Self, Seq, seq, sets, sets_last, size_of, size_word, slice_ty}
use Names.{slice_val, Slot, Soaks, SProp, stop, sub, take_at, Ty, ty_int, ty_ptr, ty_ref, type_at, uncapped}
use Names.{uncapped_fits, unsigned, Ura, Val, value_local, vint, vptr, w64, whole, word, word-Good, WpFn, ‵, ℕ, ◌$◌}
use Names.{◌*◌, ◌+◌, ◌<◌, ◌^◌, ◌∵◌, ◌∷◌, ◌≡◌}
use Rattle.ga_boxed.proofs.walks.CellsWalk.{the_base}
use Rattle.ga_boxed.proofs.walks.WalkParts.{Bs, Cr, sz}

module _ (E : El) where
  -- what is promised of the first parameter and the result
  abbrev pub Showing : Self 1 → Slot 1 → Type 2
  Showing me out = (M : Type 1) (𝓤 : Ura M) → Logic 𝓤 → (κs : Lfts 1) → (me.slot.row κs).Denot
      → (type_at out κs).Denot → SProp 𝓤

  -- such a call of the cells that are `now` of its first parameter
  abbrev pub showing : (me : Self 1) (out : Slot 1) → ((κs : Lfts 1) → (me.slot.row κs).Denot → (Cr E).Denot)
      → Showing me out → Call 1
  showing me out now gives = record {
    outlives = [];
    me = me;
    behind = the_base E ∷ number no ∷ number no ∷ [];
    out = out;
    asks = λ κs x a. let d = now κs x in
        (a.0.ptr ≡ d.at) ∷ (a.1.0 ≡ d.passed) ∷ (a.1.1.0 ≡ length d.items) ∷ [];
    gives = λ M 𝓤 𝓛 κs x a r w. gives M 𝓤 𝓛 κs x r;
  }

  -- σ is the items' type behind a reference, and τ that of the cells
  abbrev slicing : Fn → Mutability → Ty → Ty → Fn
  slicing e μ σ τ = record e {
    locals = local (slice_ty (ty_ref (named 0) μ σ)) value_local ∷ local (ty_ref (named 0) μ τ) value_local
        ∷ local (layout (Bs E)) value_local ∷ local (ty_int w64) value_local ∷ local (ty_int w64) value_local
        ∷ local (slice_ty (ty_ref erased μ σ)) value_local ∷ local (ty_int w64) value_local
        ∷ local ty_ptr value_local ∷ [];
    body = seq (block
        (seq (assign (place 6 []) (op2 (mul unsigned) (copy (place 3 [])) (size_of (elτ E))))
        (seq (assign (place 7 []) (op2 offset (copy (place 2 (field 0 ∷ []))) (copy (place 6 []))))
        (assign (place 5 []) (aggregate (copy (place 7 []) ∷ copy (place 4 []) ∷ []))))))
        (seq (assign (place 0 []) (rv_opd (copy (place 5 [])))) return);
  }

  module _ {M : Type 1} {𝓤 : Ura M} (𝓛 : Logic 𝓤) (C : Calls 𝓤 𝓛.H) (Λ : Loops 𝓤 𝓛.H) (e : Fn) (μ : Mutability)
      (σ τ : Ty) (rb ro : ℕ) (base : (Bs E).Denot) (index len : ℕ) (Post : Val → SProp 𝓤) where
    open 𝓛 use {H}

    -- the items are lent before the first step: what is had at first becomes what the walk is to end with
    abbrev pub Lends : Item 𝓤 → Type 2
    Lends Had = (Γ : List (Item 𝓤)) (G : Goal 𝓤 H) → Soaks G
        → ((b o : ℕ) → base.ptr ≡ block_ptr b o → index * sz E < 2 ^ 64 → (Lent : Item 𝓤)
        → ent 𝓤 (mean 𝓛 Lent) (Post (slice_val (b, index * sz E + o) len)) → Seq Go 𝓛 (Lent ∷ Γ) G)
        → Seq Go 𝓛 (Had ∷ Γ) G

    pub slices : index < 2 ^ 64 → len < 2 ^ 64 → (Had : Item 𝓤) → Lends Had
        → ent 𝓤 (mean 𝓛 Had)
        (WpFn 𝓤 H C Λ (slicing e μ σ τ) (vptr rb ro ∷ word base.ptr ∷ vint w64 index ∷ vint w64 len ∷ []) Post)
    slices fits_index fits_len Had lends =
        let s = sz E in
        qed 𝓛 (Had ∷ []) ∵
        enter ! C Λ (slicing e μ σ τ) (vptr rb ro ∷ word base.ptr ∷ vint w64 index ∷ vint w64 len ∷ []) _ $ alloc_all !
        (λ l. pass_all ! refl (
          (tt, tt),
          (word-Good [] base.ptr, ((tt, record { fits = fits_index }), ((tt, record { fits = fits_len }), tt))),
        ) $
        let En : Env 𝓤 H = env (slicing e μ σ τ).locals l in
        lends _ _ tt (λ b o at far Lent ends.
        take_at ! 2 $ rewrite ! 0 (λ (p : Ptr). ‵ (fat full_share (layout (Bs E)) (l 2) 0 (word p))) at refl $
        give_at ! 2 $ first ! $ blocks ! $
        sets ! (is ! (bin ! (get ! refl) (size_word !) (record { fits = uncapped_fits index s far }))
        (ap (vint w64) (uncapped index s far))) refl (tt, record { fits = far }) $
        sets ! (bin ! (get_in ! (fld ! refl (stop !)) (sub ! 0 refl (whole !))) (get ! refl) tt) refl (tt, tt) $
        sets_last ! (agg ! (and_then ! (get ! refl) (and_then ! (get ! refl) (no_more !)))) refl
        (tt, (tt, (record { fits = fits_len }, tt))) $
        exec ! C Λ En (after 1 (slicing e μ σ τ).body) (at_ret En Post) $ sets ! (of_opd ! (get ! refl)) refl
        (tt, (tt, (record { fits = fits_len }, tt))) $
        returns ! (look_at ! 0 refl) $ free_all ! refl $ keep ! (0 ∷ []) $ by ! ends))
