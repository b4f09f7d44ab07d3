-- `slice_mut` lends the items, and the cells follow them. Assumes `Logic`.
use Rattle.ga_boxed.proofs.walks
use walks.{ !, [], ap, args, arith, Array, await, block_ptr, by, Call, Calls, cell_at, cells, cells_own, Cr, done, El}
use walks.{el_x, empty, ent, facts, fjoin, fjoin3, flft, flt_i, Fml, Fn, follows, fpack, fsep, fsplit, fsplit3}
use walks.{full_share, GName, group, Had, has_every, id⊢, inst_fn, join, keep, later, length, List, Logic, Loops, Mark}
use walks.{meets_grown, mem, move, mut, mut_vals, MutBor, MutRef, MutSlice, named, nothing, opens_cells, pick, plain}
use walks.{Ptr, qed, R, raw, refl, rewrite, sem, sep, showing, slice_val, SliceRefMutOf, slices, some, spent, split}
use walks.{split3, subst, sym, sz, tables, times_below, tokens, toks, Ura, use1, Val, Walk, ‵, ℕ, ◌$◌, ◌*◌, ◌+◌, ◌<◌}
use walks.{◌^◌, ◌∙◌, ◌∵◌, ◌∷◌, ◌≡◌, ◌≤◌, ◌⊛◌}
use denote.FollowSlice.{Elements, lends_Elements}
use denote.Memory.{part_of}
use lib.ListN.{drop as drop_l}
use lib.Seq.{take_at as take_front}
use Rattle.std.specs.List.{refill}
use Rattle.ga_boxed.specs.CellsLend.{with_items}
use Rattle.ga_boxed.specs.contracts.live_block.cells.Cells.slice_mut.Key.{name as #self}
use Rattle.ga_boxed.proofs.live_block.cells.Cells.slice_mut.Statement as stated
use Rattle.ga_boxed.proofs.live_block.cells.Cells.slice_mut.Code as code

module _ (E : El) where
  abbrev function : Fn
  function = inst_fn (args E) code.function

  abbrev Written : (Cr E).Denot → List (el_x E) → (Cr E).Denot
  Written d ws = with_items d (refill (length d.items) d.items ws)

  abbrev call : Call 1
  call = showing E (spent E) (SliceRefMutOf (0 ∷ []) tt (plain (λ _. R E)) (λ _. tt)) (λ κs x. x.now)
      (λ M 𝓤 𝓛 κs x r. sep 𝓤
      (sem 𝓛 (follows (Cr E) (Array (R E) 0) x.ghost_name r.ghost_name (Written x.now)))
      (facts 𝓤 ((r.now ≡ x.now.items) ∷ [])))

module _ (E : El) (d : (Cr E).Denot) (rb ro b o : ℕ) (vs : List Val) where
  -- the slots that hold nothing
  abbrev Around : Fml
  Around = fsep (empty (R E) b o d.passed) (empty (R E) b ((d.passed + length d.items) * sz E + o) d.room)

  -- all but the items
  abbrev Rest : Fml
  Rest = fsep Around (fsep ((Mark E).own_val (tt, tt) vs) (cell_at full_share (Cr E).mir vs rb ro))

  back : {M : Type 1} {𝓤 : Ura M} (𝓛 : Logic 𝓤) → d.at ≡ block_ptr b o
      → (d.passed + length d.items + d.room) * sz E < 2 ^ 63 → (ws : List (el_x E)) → length ws ≡ length d.items
      → ent 𝓤 (sep 𝓤 (sem 𝓛 (cells (mem (R E)) ws b (d.passed * sz E + o))) (sem 𝓛 Rest))
      (sem 𝓛 ((mem (Cr E)).own_at (Written E d ws) rb ro))
  unfolding part_of
  back 𝓛 e small ws same =
      let new = Written E d ws in
      let all : new.items ≡ ws = take_front ws (drop_l (length ws) d.items) (length d.items) same in
      let long : length new.items ≡ length d.items = ap length all ∙ same in
      qed 𝓛 (‵ (cells (mem (R E)) ws b (d.passed * sz E + o)) ∷ ‵ Rest ∷ []) ∵
      rewrite ! 0 (λ (l : List (el_x E)). ‵ (cells (mem (R E)) l b (d.passed * sz E + o))) (sym all) refl $
      move ! (1 ∷ []) $ fsplit3 ! $
      rewrite ! 0 (λ (k : ℕ). ‵ (fsep (empty (R E) b o d.passed) (empty (R E) b ((d.passed + k) * sz E + o) d.room)))
      (sym long) refl $
      move ! (3 ∷ 0 ∷ []) $ fjoin ! $
      flt_i ! ((d.passed + length new.items + d.room) * sz E) (2 ^ 63)
      (subst (λ k. (d.passed + k + d.room) * sz E < 2 ^ 63) (sym long) small) $ fjoin ! $
      rewrite ! 0 (λ (p : Ptr). ‵ (cells_own (R E) p d.passed new.items d.room)) (sym e) refl $ move !
      (1 ∷ 0 ∷ []) $ fjoin ! $ move ! (1 ∷ 0 ∷ []) $ fjoin ! $
      fpack ! (List Val) (λ us. fsep (cell_at full_share (Cr E).mir us rb ro) ((Cr E).own_val new us)) vs $ done !

module _ (E : El) {M : Type 1} {𝓤 : Ura M} (𝓛 : Logic 𝓤) (C : Calls 𝓤 𝓛.H) (Λ : Loops 𝓤 𝓛.H) where
  walk : Walk (call E) 𝓛 C Λ (function E)
  walk κs qs bounds x a w Post asked fine exits =
      let base_is = asked.0 in let first_place = asked.1.0 in let long = asked.1.1 in let base = a.0 in
      let index = a.1.0 in let len = a.1.1.0 in let d = x.now in let xs = d.items in let s = sz E in
      let all = d.passed + length xs + d.room in
      let κ = κs.0 in let q = qs.0 in let γ = x.ghost_name in let rb = x.ref_ptr.0 in let ro = x.ref_ptr.1 in
      let code = (Cr E).coded.code d in let new = Written E d in
      let roomy : length xs < 2 ^ 64 = omega (arith, long, fine.1.1.0) in
      qed 𝓛 (Had (call E) 𝓛 κs qs x a w) ∵ keep ! (0 ∷ 1 ∷ []) $ group ! 2 $ by !
      (slices E 𝓛 C Λ (function E) mut _ _ rb ro base index len Post fine.1.0 fine.1.1.0
      (‵ ((MutRef (named 0) κ (Cr E)).own_val x (mut_vals x)) ⊛ raw (toks 𝓛 1 κs qs)) (λ Γ G z k. split ! $
      opens_cells ! z E κs qs x (λ vs b o e small.
      let near : index ≤ all = omega (arith, first_place) in
      let far : index * s < 2 ^ 64 = omega (arith, times_below index all s (2 ^ 63) near small) in
      let at = d.passed * s + o in let way = back E d rb ro b o vs 𝓛 e small in
      let fitting = times_below (length xs) all s (2 ^ 63) (omega arith) small in
      let R₀ = Rest E d rb ro b o vs in
      fsplit ! $ move ! (1 ∷ 2 ∷ 3 ∷ []) $ fjoin3 ! $ move ! (2 ∷ 3 ∷ 4 ∷ 1 ∷ 0 ∷ []) $ group ! 5 $
      use1 𝓛 (later (some (λ (δ : GName). raw (Elements 𝓛 (Cr E) (R E) new (named 0) κ q rb ro b at γ xs
      (roomy, fitting) (sem 𝓛 R₀) way δ))))
      (lends_Elements 𝓛 (Cr E) (R E) new (named 0) κ q rb ro b at γ xs (roomy, fitting) (sem 𝓛 R₀) way code code) $
      await ! z $ pick ! (λ δ.
      let r : MutBor (List (el_x E)) = record { ref_ptr = (b, at); ghost_name = δ; now = xs } in
      use1 𝓛 (‵ ((MutSlice (named 0) κ (R E)).own_val r (slice_val (b, at) (length xs) ∷ [])) ⊛ ‵ (flft κ q)
      ⊛ ‵ (follows (Cr E) (Array (R E) 0) γ δ new)) (id⊢ 𝓤 _) $ split3 ! $
      rewrite ! 0 (λ (v : Val). ‵ ((MutSlice (named 0) κ (R E)).own_val r (v ∷ [])))
      (λ i. slice_val (b, sym first_place i * s + o) (sym long i)) refl $
      has_every ! ((xs ≡ xs) ∷ []) refl $ move ! (3 ∷ 0 ∷ []) $ join ! $ move ! (2 ∷ []) $
      tokens ! κs qs $ nothing ! $ move ! (0 ∷ 1 ∷ 3 ∷ 2 ∷ []) $ group ! 4 $
      k b o (base_is ∙ e) far _ (exits (slice_val (b, index * s + o) len) r tt (tt, (tt, (tt, tt))) tt)))))

pub slice_mut_spec : {M : Type 1} → stated.statement M
slice_mut_spec 𝓤 𝓛 𝓜 𝓡 wired X LX y =
    let E : El = record { row = X; laws = LX } in let 𝓣 = tables 𝓤 𝓛.H 𝓜 𝓡 𝓡.env in
    meets_grown (call E) 𝓛 𝓜 𝓡 1 (X.lives, tt) (#self (args E)) (function E) (code.unfolded 𝓤 𝓛.H 𝓜 𝓡 wired (X, tt))
    (walk E 𝓛 𝓣.C 𝓣.Λ) ((y.0.0, y.0.1, tt, y.0.3, y.0.4), y.1)
