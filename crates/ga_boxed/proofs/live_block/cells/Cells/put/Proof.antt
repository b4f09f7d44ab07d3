-- `put` fills the slot behind the items. Assumes `Logic`.
use Rattle.ga_boxed.proofs.walks
use walks.{ !, [], after, alloc_all, an_item, ap, args, arith, Around, assigns_last, at_ret, bin, blocks, Bs, by}
use walks.{by_mut, Call, Calls, closes_cells, Cr, El, el_x, elτ, enter, Env, env, exec, facts, fat, feq_i, first, fld}
use walks.{Fn, free_all, froom, fsplit, full_share, get, get_in, give_at, Had, has_every, Held, init, inst_fn, item_in}
use walks.{keep, layout, length, length-append, List, Logic, look_at, Loops, meets_grown, move, mut_vals, no, number}
use walks.{of_opd, one_below, opens_cells, part_at, part_in, pass_all, plain, Ptr, qed, R, refl, returns, rewrite}
use walks.{room_out, sets, size_lit, split, stop, sub, subst, sym, sz, tables, take_at, the_base, through, times_below}
use walks.{unit, unit_lit, Ura, use1, use2, Val, vint, vunit, w64, Walk, whole, word, word-Good, ‵, ℕ, ◌$◌, ◌*◌, ◌++◌}
use walks.{◌+◌, ◌-◌, ◌<◌, ◌^◌, ◌∙◌, ◌∵◌, ◌∷◌, ◌≡◌, ◌⊛◌}
use Rattle.ga_boxed.specs.contracts.live_block.cells.Cells.put.Key.{name as #self}
use Rattle.ga_boxed.proofs.live_block.cells.Cells.put.Statement as stated
use Rattle.ga_boxed.proofs.live_block.cells.Cells.put.Code as code

module _ (E : El) where
  abbrev function : Fn
  function = inst_fn (args E) code.function

  abbrev Gives : (Cr E).Denot → el_x E → (Cr E).Denot → List (Type 0)
  Gives d item new = (new.at ≡ d.at) ∷ (new.passed ≡ d.passed) ∷ (new.items ≡ d.items ++ item ∷ [])
      ∷ (new.room + 1 ≡ d.room) ∷ []

  abbrev call : Call 1
  call = record {
    outlives = [];
    me = by_mut E;
    behind = the_base E ∷ number no ∷ an_item E ∷ [];
    out = plain (λ _. unit);
    asks = λ κs x a. let d = x.now in
        (a.0.ptr ≡ d.at) ∷ (a.1.0 ≡ d.passed + length d.items) ∷ (0 < d.room) ∷ [];
    gives = λ M 𝓤 𝓛 κs x a r w. facts 𝓤 (Gives x.now a.1.1.0 w.now);
  }

module _ (E : El) {M : Type 1} {𝓤 : Ura M} (𝓛 : Logic 𝓤) (C : Calls 𝓤 𝓛.H) (Λ : Loops 𝓤 𝓛.H) where
  walk : Walk (call E) 𝓛 C Λ (function E)
  walk κs qs bounds x a w Post asked fine exits =
      let base_is = asked.0 in let behind = asked.1.0 in let some = asked.1.1 in let base = a.0 in let index = a.1.0 in
      let item = a.1.1.0 in let v_item = w.1.1.0 in let d = x.now in let xs = d.items in
      let all = d.passed + length xs + d.room in
      let new : (Cr E).Denot = record d { items = xs ++ item ∷ []; room = d.room - 1 } in
      let fewer : d.room - 1 + 1 ≡ d.room = omega arith in
      let same : all ≡ d.passed + length new.items + new.room = omega (arith, length-append xs (item ∷ [])) in
      qed 𝓛 (Had (call E) 𝓛 κs qs x a w) ∵ move ! (2 ∷ []) $ fsplit ! $ move ! (1 ∷ []) $ fsplit ! $ move !
      (1 ∷ []) $ fsplit ! $ keep ! (4 ∷ 5 ∷ 0 ∷ []) $
      enter ! C Λ (function E) (mut_vals x ++ word base.ptr ∷ vint w64 index ∷ v_item ∷ []) _ $ alloc_all !
      (λ l. pass_all ! refl ((tt, tt), (word-Good [] base.ptr, ((tt, record { fits = fine.1.0 }), (fine.1.1.0, tt)))) $
      let En : Env 𝓤 𝓛.H = env (function E).locals l in
      opens_cells ! tt E κs qs x (λ vs b o e small.
      let s = sz E in let tiny : s < 2 ^ 64 = omega (arith, one_below all s (2 ^ 63) (omega arith) small) in
      let far : index * s < 2 ^ 64 = omega (arith, times_below index all s (2 ^ 63) (omega arith) small) in
      let here : (d.passed + length xs) * s + o ≡ index * s + o = ap (λ k. k * s + o) (sym behind) in
      take_at ! 2 $ rewrite ! 0 (λ (p : Ptr). ‵ (fat full_share (layout (Bs E)) (l 2) 0 (word p)))
      (base_is ∙ e) refl $ give_at ! 2 $ first ! $ blocks ! $
      sets ! (bin ! (get ! refl) (size_lit ! (record { fits = tiny })) (record { fits = far })) refl
      (tt, record { fits = far }) $
      sets ! (bin ! (get_in ! (fld ! refl (stop !)) (sub ! 0 refl (whole !))) (get ! refl) tt) refl (tt, tt) $
      use1 𝓛 (‵ (froom (elτ E) b ((d.passed + length xs) * s + o)) ⊛ ‵ (Around E 𝓛 b o d.passed xs new.room))
      (room_out E 𝓛 b o d.passed xs d.room new.room fewer) $ split ! $ rewrite ! 0
      (λ (k : ℕ). ‵ (froom (elτ E) b k)) here refl $
      -- [the room; the other slots; the mark; its cell; the open borrow; obs; auth; what the item owns]
      sets ! (of_opd ! (get ! refl)) refl fine.1.1.0 $ assigns_last ! (of_opd ! (get ! refl)) (through ! refl (stop !))
      (init ! 0 refl fine.1.1.0) $
      exec ! C Λ En (after 1 (function E).body) (at_ret En Post) $ sets ! (of_opd ! (unit_lit !)) refl (tt, tt) $
      move ! (0 ∷ 7 ∷ []) $ use2 𝓛 (‵ (part_at (R E) full_share item b (index * s + o)))
      (part_in 𝓛 (R E) refl full_share item b (index * s + o) v_item) $ rewrite ! 0
      (λ (k : ℕ). ‵ (part_at (R E) full_share item b k)) (sym here) refl $
      use2 𝓛 (‵ (Held E 𝓛 b o d.passed new.items new.room)) (item_in E 𝓛 b o d.passed xs item new.room) $
      closes_cells ! tt E κs qs x new vs b o e (subst (λ k. k * s < 2 ^ 63) same small) $
      returns ! (look_at ! 0 refl) $ free_all ! refl $ keep ! (0 ∷ 1 ∷ []) $
      has_every ! (Gives E d item new) (refl, (refl, (refl, fewer))) $
      feq_i ! (List Val) (vunit ∷ []) (vunit ∷ []) refl $ move ! (2 ∷ 3 ∷ 0 ∷ 1 ∷ []) $
      by ! (exits vunit tt new (tt, (tt, (tt, tt))) tt)))

pub put_spec : {M : Type 1} → stated.statement M
put_spec 𝓤 𝓛 𝓜 𝓡 wired X LX y =
    let E : El = record { row = X; laws = LX } in let 𝓣 = tables 𝓤 𝓛.H 𝓜 𝓡 𝓡.env in
    meets_grown (call E) 𝓛 𝓜 𝓡 1 (X.lives, tt) (#self (args E)) (function E) (code.unfolded 𝓤 𝓛.H 𝓜 𝓡 wired (X, tt))
    (walk E 𝓛 𝓣.C 𝓣.Λ) ((y.0.0, y.0.1, tt, y.0.3, y.0.4), y.1)
