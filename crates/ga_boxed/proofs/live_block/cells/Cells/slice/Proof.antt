-- `slice` shows the items that the cells lend. Assumes `Logic`.
use Rattle.ga_boxed.proofs.walks
use walks.{ !, [], ap, args, arith, Bor, by, by_ref, Call, Calls, cells_lent, Cr, drop, El, el_x, elements_shared}
use walks.{facts, feq_i, fjoin, flt_i, flt_l, Fn, fsplit, group, Had, has_every, id⊢, imm, in_a_block, inst_fn, keep}
use walks.{length, List, Logic, Loops, meets_grown, move, never, nothing, plain, qed, R, raw, refl, rewrite, showing}
use walks.{shr_vals, slice_val, SliceRefOf, slices, split, sym, sz, tables, times_below, toks, Ura, Val, Walk, ‵, ℕ}
use walks.{◌$◌, ◌*◌, ◌+◌, ◌<◌, ◌^◌, ◌∙◌, ◌∵◌, ◌∷◌, ◌≡◌, ◌≤◌, ◌⊛◌}
use denote.Opens.{hide, unhide}
use Rattle.ga_boxed.specs.contracts.live_block.cells.Cells.slice.Key.{name as #self}
use Rattle.ga_boxed.proofs.live_block.cells.Cells.slice.Statement as stated
use Rattle.ga_boxed.proofs.live_block.cells.Cells.slice.Code as code

module _ (E : El) where
  abbrev function : Fn
  function = inst_fn (args E) code.function

  abbrev call : Call 1
  call = showing E (by_ref (Cr E) tt) (SliceRefOf (0 ∷ []) tt (plain (λ _. R E)) (λ _. tt)) (λ κs x. x.now)
      (λ M 𝓤 𝓛 κs x r. facts 𝓤 ((r.now ≡ x.now.items) ∷ []))

module _ (E : El) {M : Type 1} {𝓤 : Ura M} (𝓛 : Logic 𝓤) (C : Calls 𝓤 𝓛.H) (Λ : Loops 𝓤 𝓛.H) where
  walk : Walk (call E) 𝓛 C Λ (function E)
  walk κs qs bounds x a w Post asked fine exits =
      let base_is = asked.0 in let first_place = asked.1.0 in let long = asked.1.1 in let base = a.0 in
      let index = a.1.0 in let len = a.1.1.0 in let d = x.now in let xs = d.items in let s = sz E in
      let all = d.passed + length xs + d.room in
      let own = (call E).me.slot.row κs in
      qed 𝓛 (Had (call E) 𝓛 κs qs x a w) ∵ keep ! (0 ∷ 1 ∷ []) $ group ! 2 $ by !
      (slices E 𝓛 C Λ (function E) imm _ _ x.ref_ptr.0 x.ref_ptr.1 base index len Post fine.1.0 fine.1.1.0
      (‵ (own.own_val x (shr_vals x)) ⊛ raw (toks 𝓛 1 κs qs)) (λ Γ G z k. split ! $ fsplit ! $ drop ! $ unhide ! $
      fsplit ! $ drop ! $ in_a_block ! d.at (λ p. cells_lent (R E) p d.passed xs d.room κs.0) (id⊢ 𝓤 (never 𝓤))
      (λ b o e. fsplit ! $ flt_l ! (λ small.
      let near : index ≤ all = omega (arith, first_place) in
      let far : index * s < 2 ^ 64 = omega (arith, times_below index all s (2 ^ 63) near small) in
      let at : ℕ × ℕ = (b, index * s + o) in let r : Bor (List (el_x E)) = record { ref_ptr = at; now = xs } in
      rewrite ! 0 (λ (k : ℕ). ‵ (elements_shared (R E) xs b (k * s + o) κs.0)) (sym first_place) refl $ hide ! $
      flt_i ! (length xs * s) (2 ^ 63) (times_below (length xs) all s (2 ^ 63) (omega arith) small) $ flt_i !
      (length xs) (2 ^ 64) (omega (arith, long, fine.1.1.0)) $ fjoin ! $
      feq_i ! (List Val) (slice_val at len ∷ []) (slice_val at (length xs) ∷ []) (ap (λ k. slice_val at k ∷ []) long) $
      fjoin ! $ fjoin ! $ has_every ! ((xs ≡ xs) ∷ []) refl $ nothing ! $ move ! (0 ∷ 3 ∷ 2 ∷ 1 ∷ []) $ group ! 4 $
      k b o (base_is ∙ e) far _ (exits (slice_val at len) r tt (tt, (tt, (tt, tt))) tt)))))

pub slice_spec : {M : Type 1} → stated.statement M
slice_spec 𝓤 𝓛 𝓜 𝓡 wired X LX y =
    let E : El = record { row = X; laws = LX } in let 𝓣 = tables 𝓤 𝓛.H 𝓜 𝓡 𝓡.env in
    meets_grown (call E) 𝓛 𝓜 𝓡 1 (X.lives, tt) (#self (args E)) (function E) (code.unfolded 𝓤 𝓛.H 𝓜 𝓡 wired (X, tt))
    (walk E 𝓛 𝓣.C 𝓣.Λ) ((y.0.0, y.0.1, tt, y.0.3, y.0.4), y.1)
