-- `fits` says exactly whether the slots take fewer than 2 ^ 63 bytes, for every element type. Assumes `Logic`.
use Rattle.ga_boxed.proofs.walks
use walks.{ !, [], after, alloc_all, args, arith, at_ret, bin, Bool, bool, branches, by, Call, Calls, capped}
use walks.{capped_fits, capped_is, capped_small, div-le_self, drop, El, emp, ent, enter, Env, env, eqb, eqb→eq, exec}
use walks.{facts, feq_i, first, Fits, flt_l, Fn, free_all, fsplit, get, Goes-dropped, guard_i, Had, has_every, inst_fn}
use walks.{keep, le-div_iff_mul-le, leb, leb→le, le→leb, List, lit, lit<, Logic, look_at, Loops, meets_grown, mul-zero}
use walks.{not, nothing, of_opd, one_below, pass_all, plain, qed, refl, returns, returns_within, sets, size_word, skips}
use walks.{stay_dropped, subst, suc, sym, sz, T, T_true, tables, true, true_lit, uint_Tells, uint_vals, uncapped, Ura}
use walks.{usize, Val, vbool, via, vint, w64, Walk, yes, zero, ℕ, ◌$◌, ◌*◌, ◌/◌, ◌<◌, ◌^◌, ◌↔◌, ◌∵◌, ◌∷◌, ◌≡◌, ◌≤◌}
use Rattle.ga_boxed.proofs.BlockLemmas.{none_fits}
use Rattle.ga_boxed.proofs.live_block.cells.fits.Code as code
use Rattle.ga_boxed.proofs.live_block.cells.fits.Statement as stated
use Rattle.ga_boxed.specs.contracts.live_block.cells.fits.Key.{name as #self}

abbrev most : ℕ
most = 9223372036854775807

-- counts that the cap of a size leaves room for, the size does
of_capped : (c k : ℕ) → c * capped k < 2 ^ 63 → c * k < 2 ^ 63
of_capped zero k h = none_fits 0 k refl
of_capped (suc c) k h =
    let small : k < 2 ^ 63 = capped_small k (one_below (suc c) (capped k) (2 ^ 63) (omega arith) h) in
    subst (λ (j : ℕ). suc c * j < 2 ^ 63) (capped_is k (omega arith)) h

of_no_size : (c k : ℕ) → T (eqb (capped k) 0) → c * k < 2 ^ 63
of_no_size c k t = of_capped c k (rw (eqb→eq (capped k) 0 t) (omega (arith, mul-zero c)))

some_size : (k : ℕ) → T (not (eqb k 0)) → 0 < k
some_size zero t = absurd t
some_size (suc k) t = omega arith

of_size : (c k : ℕ) → 0 < capped k → (leb c (most / capped k) ≡ true) ↔ (c * k < 2 ^ 63)
of_size c k some =
    let iff = le-div_iff_mul-le {k = capped k} {x = c} {y = most} some in (
      λ e. let low : c * capped k ≤ most = iff.0 (leb→le c (most / capped k) (subst T (sym e) tt)) in
          of_capped c k (omega arith),
      λ h. let same : c * capped k ≡ c * k = uncapped c k (omega arith) in
          T_true _ (le→leb c (most / capped k) (iff.1 (omega arith))),
    )

module _ (E : El) where
  abbrev function : Fn
  function = inst_fn (args E) code.function

  abbrev Gives : ℕ → Bool → List (Type 0)
  Gives c r = ((r ≡ true) ↔ (c * sz E < 2 ^ 63)) ∷ []

  abbrev call : Call 0
  call = record {
    outlives = [];
    me = record {
      slot = plain (λ _. usize);
      kept = yes;
      stay = stay_dropped (plain (λ _. usize)) yes;
      vals = λ _. uint_vals w64;
      tells = λ _. uint_Tells w64;
      ends = λ 𝓛. Goes-dropped 𝓛 0 (plain (λ _. usize)) yes (λ κs x f. refl);
    };
    behind = [];
    out = plain (λ _. bool);
    asks = λ κs c a. [];
    gives = λ M 𝓤 𝓛 κs c a r w. facts 𝓤 (Gives c r);
  }

module _ (E : El) {M : Type 1} {𝓤 : Ura M} (𝓛 : Logic 𝓤) (C : Calls 𝓤 𝓛.H) (Λ : Loops 𝓤 𝓛.H) where
  walk : Walk (call E) 𝓛 C Λ (function E)
  walk κs qs bounds c ns w Post asked fine ends =
      let k : ℕ = capped (sz E) in let q : ℕ = most / k in
      let low : q < 2 ^ 64 = omega (arith, div-le_self most k) in
      let exits : (r : Bool) → (r ≡ true) ↔ (c * sz E < 2 ^ 63) → ent 𝓤 (emp 𝓤) (Post (vbool r)) = λ r gives.
      qed 𝓛 [] ∵ has_every ! (Gives E c r) gives $ feq_i ! (List Val) (vbool r ∷ []) (vbool r ∷ []) refl $ nothing ! $
      nothing ! $ by ! (ends (vbool r) r tt tt tt) in
      qed 𝓛 (Had (call E) 𝓛 κs qs c ns w) ∵ fsplit ! $ drop ! $ flt_l ! (λ few. keep ! [] $
      enter ! C Λ (function E) (vint w64 c ∷ []) _ $ alloc_all !
      (λ l. pass_all ! refl ((tt, record { fits = few }), tt) $
      let En : Env 𝓤 𝓛.H = env (function E).locals l in
      sets ! (of_opd ! (size_word !)) refl (tt, record { fits = capped_fits (sz E) }) $
      sets ! (bin ! (get ! refl) (lit ! tt) tt) refl (tt, tt) $
      first ! $ branches ! (get ! refl)
      (λ none. sets ! (of_opd ! (true_lit !)) refl (tt, tt) $
      returns_within ! Post refl (look_at ! 0 refl) $ free_all ! refl $ by !
      (exits true (λ _. of_no_size c (sz E) none, λ _. refl)))
      (λ some. skips ! $ exec ! C Λ En (after 3 (function E).body) (at_ret En Post) $
      sets ! (bin ! (record {
        go = λ Kt z. via 𝓤 (Kt (vint w64 most)) z
            (guard_i 𝓤 (Fits w64 most) (Kt (vint w64 most)) (record { fits = lit< tt }));
      }) (get ! refl) (some_size k some))
      refl (tt, record { fits = low }) $
      sets ! (bin ! (get ! refl) (get ! refl) tt) refl (tt, tt) $
      returns ! (look_at ! 0 refl) $ free_all ! refl $ by ! (exits (leb c q) (of_size c (sz E) (some_size k some))))))

pub fits_spec : {M : Type 1} → stated.statement M
fits_spec 𝓤 𝓛 𝓜 𝓡 wired X LX y =
    let E : El = record { row = X; laws = LX } in let 𝓣 = tables 𝓤 𝓛.H 𝓜 𝓡 𝓡.env in
    meets_grown (call E) 𝓛 𝓜 𝓡 1 (X.lives, tt) (#self (args E)) (function E) (code.unfolded 𝓤 𝓛.H 𝓜 𝓡 wired (X, tt))
    (walk E 𝓛 𝓣.C 𝓣.Λ) ((y.0.0, y.0.1, tt, y.0.3, y.0.4), y.1)
