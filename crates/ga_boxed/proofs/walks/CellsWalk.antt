-- The calls of `Cells` that are given the base: their parameters, and how `self` is opened and closed. Assumes `Logic`.
--     the_base          the base.        by_mut, spent      `&mut self`
--     opens_cells, closes_cells      the borrow of `self` is opened, and closed on other cells
use Rattle.ga_boxed.proofs.walks.Names
use Names.{[], Behind, block_ptr, Body as Borrowed, cell_at, cells_own, closes, drop, El, emp, fauth, feq_i, fjoin}
use Names.{fjoin3, flft, flt_i, flt_l, fobor, fobs, fsplit, fsplit3, fst∗, full_share, Goal, Goes, Goes-dropped}
use Names.{Goes-ref, Goes-spent_ref, Gv, id⊢, in_a_block, Item, join, Kept, length, Lfts, List, Logic, mem, move}
use Names.{mut_Tells, mut_vals, MutBor, MutRef, named, never, no, nothing, opens, plain, Ptr, R, raw, refl, RefMutOf}
use Names.{rewrite, Self, Seq, Shares, Slot, Soaks, Stay, stay_dropped, stay_ref, Step, step, sym, toks, told_by, Ura}
use Names.{use1, Val, yes, ‵, ℕ, ◌$◌, ◌*◌, ◌+◌, ◌<◌, ◌^◌, ◌∷◌, ◌≡◌}
use Rattle.ga_boxed.proofs.walks.EndLemmas.{Held}
use Rattle.ga_boxed.proofs.walks.WalkParts.{Bs, Cr, Mark, base_Tells, base_vals, sz}

module _ (E : El) where
  abbrev pub the_base : {n : ℕ} → Behind n
  the_base {n} = told_by (Bs E) no (base_vals E) (λ _. Unit {0}) (λ base vs is. (base_Tells E base vs is, tt))
      (λ M 𝓤 𝓛. Goes-dropped 𝓛 n (plain (λ _. Bs E)) no (λ κs x f. refl))

  abbrev self : Slot 1
  self = RefMutOf (0 ∷ []) tt (plain (λ _. Cr E)) (λ _. tt)

  abbrev by_mut_as : (k : Kept) (h : Stay self k) → ((M : Type 1) (𝓤 : Ura M) (𝓛 : Logic 𝓤) → Goes 𝓛 1 self k h)
      → Self 1
  by_mut_as k h ends = record {
    slot = self;
    kept = k;
    stay = h;
    vals = λ _. mut_vals;
    tells = λ κs. mut_Tells (named 0) κs.0 (Cr E);
    ends = λ {M} {𝓤} 𝓛. ends M 𝓤 𝓛;
  }

  -- its last value is said
  abbrev pub by_mut : Self 1
  by_mut = by_mut_as yes (stay_ref (0 ∷ []) tt (plain (λ _. Cr E)))
      (λ M 𝓤 𝓛. Goes-ref 𝓛 1 0 tt (plain (λ _. Cr E)))

  -- nothing is said of it, since the result may live on in its place
  abbrev pub spent : Self 1
  spent = by_mut_as no (stay_dropped self no) (λ M 𝓤 𝓛. Goes-spent_ref 𝓛 1 (0 ∷ []) tt (plain (λ _. Cr E)))

module _ {M : Type 1} {𝓤 : Ura M} {𝓛 : Logic 𝓤} {K : Type 0} {Γ : List (Item 𝓤)} {G : Goal 𝓤 𝓛.H} where
  -- the token of the one lifetime
  pub tokens : K → (κs : Lfts 1) (qs : Shares 1) → Step K 𝓛 (raw (toks 𝓛 1 κs qs) ∷ Γ) G (‵ (flft κs.0 qs.0) ∷ Γ) G
  tokens t κs qs = step (λ s. nothing t $ move t (1 ∷ 0 ∷ []) $ join t $ use1 𝓛 (raw (toks 𝓛 1 κs qs)) (id⊢ 𝓤 _) $ s)

-- the cells d in their slots, what `self` has besides, and its open borrow
abbrev Opened : {M : Type 1} {𝓤 : Ura M} (𝓛 : Logic 𝓤) (E : El) → Lfts 1 → Shares 1 → MutBor (Cr E).Denot
    → (Cr E).Denot → List Val → ℕ → ℕ → Gv → Gv → List (Item 𝓤) → List (Item 𝓤)
Opened 𝓛 E κs qs x d vs b o u w Γ = ‵ (Held E 𝓛 b o d.passed d.items d.room) ∷ ‵ ((Mark E).own_val (tt, tt) vs)
    ∷ ‵ (cell_at full_share (Cr E).mir vs x.ref_ptr.0 x.ref_ptr.1)
    ∷ ‵ (fobor κs.0 qs.0 (Borrowed (mem (Cr E)) x.ref_ptr.0 x.ref_ptr.1 x.ghost_name))
    ∷ ‵ (fobs x.ghost_name u) ∷ ‵ (fauth x.ghost_name w) ∷ Γ

module _ {M : Type 1} {𝓤 : Ura M} {𝓛 : Logic 𝓤} {K : Type 0} {Γ : List (Item 𝓤)} {G : Goal 𝓤 𝓛.H} where
  pub opens_cells : K → Soaks G → (E : El) (κs : Lfts 1) (qs : Shares 1) (x : MutBor (Cr E).Denot) → let d = x.now in
      ((vs : List Val) (b o : ℕ) → d.at ≡ block_ptr b o → (d.passed + length d.items + d.room) * sz E < 2 ^ 63
      → Seq K 𝓛 (Opened 𝓛 E κs qs x d vs b o ((Cr E).coded.code d) ((Cr E).coded.code d) Γ) G)
      → Seq K 𝓛 (‵ ((MutRef (named 0) κs.0 (Cr E)).own_val x (mut_vals x)) ∷ raw (toks 𝓛 1 κs qs) ∷ Γ) G
  opens_cells t z E κs qs x k =
      let d = x.now in
      move t (1 ∷ []) $ use1 𝓛 (‵ (flft κs.0 qs.0)) (fst∗ 𝓤 (𝓛.A.lft κs.0 qs.0) (emp 𝓤)) $ move t
      (1 ∷ []) $ fsplit3 t $ drop t $ opens t z (Cr E) {h = d} x.ref_ptr.0 x.ref_ptr.1 (λ vs.
      move t (1 ∷ []) $ fsplit t $ move t (1 ∷ []) $
      in_a_block t d.at (λ p. cells_own (R E) p d.passed d.items d.room) (id⊢ 𝓤 (never 𝓤))
      (λ b o e. fsplit t $ flt_l t (λ small. k vs b o e small)))

  pub closes_cells : K → Soaks G → (E : El) (κs : Lfts 1) (qs : Shares 1) {u w : Gv} (x : MutBor (Cr E).Denot)
      (new : (Cr E).Denot) (vs : List Val) (b o : ℕ) → new.at ≡ block_ptr b o
      → (new.passed + length new.items + new.room) * sz E < 2 ^ 63
      → Step K 𝓛 (‵ ((MutRef (named 0) κs.0 (Cr E)).own_val (record x { now = new }) (mut_vals x))
      ∷ raw (toks 𝓛 1 κs qs) ∷ Γ) G (Opened 𝓛 E κs qs x new vs b o u w Γ) G
  closes_cells t z E κs qs x new vs b o e small = step (λ s.
      flt_i t ((new.passed + length new.items + new.room) * sz E) (2 ^ 63) small $ fjoin t $
      rewrite t 0 (λ (p : Ptr). ‵ (cells_own (R E) p new.passed new.items new.room)) (sym e) refl $ move t
      (1 ∷ 0 ∷ []) $ fjoin t $ move t (1 ∷ 0 ∷ []) $ closes t z (Cr E) new vs x.ref_ptr.0 x.ref_ptr.1 $
      move t (2 ∷ []) $ tokens t κs qs $ move t (1 ∷ 2 ∷ []) $ feq_i t (List Val) (mut_vals x) (mut_vals x) refl $
      fjoin3 t $ s)
