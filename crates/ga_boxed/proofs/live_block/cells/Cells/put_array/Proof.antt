-- `put_array` writes an array over the room of as many slots. Assumes `Logic`.
use Rattle.ga_boxed.proofs.walks
use walks.{ !, [], a_number, a_type, after, all_last, all_rest, alloc_all, Args, arith, Array, array_at_laws}
use walks.{as_written, assigns_last, at_ret, Behind, block_ptr, blocks, Bs, by, by_mut, Call, Calls, cells, cells_own}
use walks.{closes_cells, Cr, done, El, el_x, elτ, empty, ent, enter, Entries, Env, env, exec, facts, fat, feq, feq_i}
use walks.{feq_l, first, fjoin, fld, flt_i, flt_l, Fn, free_all, from, fsep, fsplit, ftrue, full_share, get, give_at}
use walks.{given, Good, Had, has_every, hop, init, inst_fn, is_one, keep, Laws, layout, layouts, learn, length, List}
use walks.{Logic, look_at, look_in_at, Loops, meets_grown, mem, move, mut_vals, no, no_room, nothing, of_opd}
use walks.{opens_cells, param, param_laws, part_at, part_in, pass_all, plain, Ptr, qed, R, RattleType, refl, returns}
use walks.{rewrite, sem, sets, size, stop, sub, subst, sz, tables, take_at, the_base, to_block, Ty, ty_array, unit}
use walks.{unit_lit, Ura, use0, use1, use2, Val, via, vunit, Walk, whole, word, word-Good, zero-mul, ‵, ℕ, ◌$◌, ◌*◌}
use walks.{◌++◌, ◌+◌, ◌<◌, ◌^◌, ◌∙◌, ◌∵◌, ◌∷◌, ◌≡◌}
use denote.Param.{ArrayAt, number}
use denote.ArrayMemory.{Array-apart}
use denote.Index.{row, whole_in}
use Rattle.ga_boxed.specs.contracts.live_block.cells.Cells.put_array.Key.{name as #self}
use Rattle.ga_boxed.proofs.live_block.cells.Cells.put_array.Statement as stated
use Rattle.ga_boxed.proofs.live_block.cells.Cells.put_array.Code as code

module _ {M : Type 1} {𝓤 : Ura M} (𝓛 : Logic 𝓤) where
  -- an array that was passed leaves nothing behind
  nothing_left : {X : Type 0} (xs : List X) (fs : Entries (λ _. Unit {0}) xs)
      → ent 𝓤 (sem 𝓛 ftrue) (sem 𝓛 (all_last (λ _. Unit {0}) (λ _ _. ftrue) xs fs))
  nothing_left [] fs = qed 𝓛 (‵ ftrue ∷ []) ∵ done !
  nothing_left (x ∷ xs) fs = qed 𝓛 (‵ ftrue ∷ []) ∵ use1 𝓛 (‵ (all_last (λ _. Unit {0}) (λ _ _. ftrue) xs fs.1))
      (nothing_left xs fs.1) $ nothing ! $ fjoin ! $ done !

  module _ (E : El) (b o : ℕ) where
    abbrev s : ℕ
    s = sz E

    -- an array is the items of cells that have no other slot
    all_items : (n : ℕ) (xs : List (el_x E)) → n * s < 2 ^ 63
        → ent 𝓤 (sem 𝓛 (part_at (Array (R E) n) full_share xs b o)) (sem 𝓛 (cells_own (R E) (block_ptr b o) 0 xs 0))
    all_items n xs small =
        qed 𝓛 (‵ (part_at (Array (R E) n) full_share xs b o) ∷ []) ∵
        use1 𝓛 (‵ (fsep (feq ℕ (length xs) n) (row (R E) full_share xs b o)))
        (Array-apart 𝓛 (R E) full_share tt n xs b o) $ fsplit ! $ feq_l ! (λ long.
        use1 𝓛 (‵ (cells (mem (R E)) xs b o)) (whole_in 𝓛 (R E) xs b o) $
        rewrite ! 0 (λ (k : ℕ). ‵ (cells (mem (R E)) xs b k)) {x = 0 * s + o} (omega (arith, zero-mul s)) refl $
        use0 𝓛 (‵ (empty (R E) b ((0 + length xs) * s + o) 0)) (no_room E 𝓛 b o ((0 + length xs) * s + o)) $
        use0 𝓛 (‵ (empty (R E) b o 0)) (no_room E 𝓛 b o o) $ fjoin ! $ move ! (1 ∷ 0 ∷ []) $ fjoin ! $
        flt_i ! ((0 + length xs + 0) * s) (2 ^ 63) (let all : n ≡ 0 + length xs + 0 = omega arith in
        subst (λ k. k * s < 2 ^ 63) all small) $ fjoin ! $ done !)

module _ (E : El) (n : ℕ) where
  abbrev args : Args
  args = layouts (a_type ∷ a_number ∷ []) (E.row, (number n, tt))

  abbrev function : Fn
  function = inst_fn args code.function

  abbrev Arr : RattleType
  Arr = ArrayAt (R E) (param 1 (number n))

  abbrev arr_laws : Laws Arr
  arr_laws = array_at_laws 1 (R E) (param_laws 0 E.row E.laws) n

  abbrev arr_ty : Ty
  arr_ty = ty_array (elτ E) n

  abbrev Gives : (Cr E).Denot → List (el_x E) → (Cr E).Denot → List (Type 0)
  Gives d items new = (new.at ≡ d.at) ∷ (new.passed ≡ 0) ∷ (new.items ≡ items) ∷ (new.room ≡ 0) ∷ []

  abbrev an_array : Behind 1
  an_array = record {
    row = Arr;
    kept = no;
    Word = Val;
    vals = λ _ v. v ∷ [];
    Fine = λ _ v. Good arr_ty v;
    told = is_one (record { row = Arr; laws = arr_laws });
    ends = λ {M} {𝓤} 𝓛 κs x f vs ok. via 𝓤 _ (nothing_left 𝓛 x f) (𝓛.laws.⇛_intro _);
  }

  abbrev call : Call 1
  call = record {
    outlives = [];
    me = by_mut E;
    behind = the_base E ∷ an_array ∷ [];
    out = plain (λ _. unit);
    asks = λ κs x a. let d = x.now in
        (size arr_ty < 2 ^ 63) ∷ (a.0.ptr ≡ d.at) ∷ (d.passed ≡ 0) ∷ (d.items ≡ []) ∷ (d.room ≡ n) ∷ [];
    gives = λ M 𝓤 𝓛 κs x a r w. facts 𝓤 (Gives x.now a.1.0 w.now);
  }

module _ (E : El) (n : ℕ) {M : Type 1} {𝓤 : Ura M} (𝓛 : Logic 𝓤) (C : Calls 𝓤 𝓛.H) (Λ : Loops 𝓤 𝓛.H) where
  walk : Walk (call E n) 𝓛 C Λ (function E n)
  walk κs qs bounds x a w Post asked fine exits =
      let base_is = asked.1.0 in let passed_is = asked.1.1.0 in let items_is = asked.1.1.1.0 in
      let room_is = asked.1.1.1.1 in let d = x.now in let base = a.0 in
      let items = a.1.0 in let v_items = w.1.0 in let good = fine.1.0 in
      let new : (Cr E).Denot = record { mark = d.mark; at = d.at; passed = 0; items = items; room = 0 } in
      let τ = arr_ty E n in
      qed 𝓛 (Had (call E n) 𝓛 κs qs x a w) ∵ move ! (2 ∷ []) $ fsplit ! $ move ! (1 ∷ []) $ fsplit ! $ keep !
      (3 ∷ 4 ∷ 0 ∷ []) $
      enter ! C Λ (function E n) (mut_vals x ++ word base.ptr ∷ v_items ∷ []) _ $ alloc_all !
      (λ l. pass_all ! refl ((tt, tt), (word-Good [] base.ptr, (good, tt))) $
      let En : Env 𝓤 𝓛.H = env (function E n).locals l in
      opens_cells ! tt E κs qs x (λ vs b o e all_small.
      flt_i ! ((d.passed + length d.items + d.room) * sz E) (2 ^ 63) all_small $ fjoin ! $
      rewrite ! 0 (λ (xs : List (el_x E)). ‵ (cells_own (R E) (block_ptr b o) d.passed xs d.room)) items_is refl $
      use1 𝓛 (given (n * sz E < 2 ^ 63) (‵ (empty (R E) b o n)))
      (to_block E 𝓛 b o d.passed d.room n (omega (arith, passed_is, room_is))) $ learn !
      (λ small. as_written ! τ b o $
      take_at ! 2 $ rewrite ! 0 (λ (p : Ptr). ‵ (fat full_share (layout (Bs E)) (l 2) 0 (word p)))
      (base_is ∙ e) refl $ give_at ! 2 $ first ! $ blocks ! $
      -- [the room; the mark; its cell; the open borrow; obs; auth; what the array owns]
      sets ! (of_opd ! (get ! refl)) refl good $
      assigns_last ! (of_opd ! (get ! refl)) (from !
      (fld ! refl (hop ! (look_in_at ! 2 (sub ! 0 refl (whole !))) (stop !)))) (init ! 0 refl good) $
      exec ! C Λ En (after 1 (function E n).body) (at_ret En Post) $ sets ! (of_opd ! (unit_lit !)) refl (tt, tt) $
      move ! (0 ∷ 6 ∷ []) $ use2 𝓛 (‵ (part_at (Array (R E) n) full_share items b o))
      (part_in 𝓛 (Array (R E) n) refl full_share items b o v_items) $
      use1 𝓛 (‵ (cells_own (R E) (block_ptr b o) 0 items 0)) (all_items 𝓛 E b o n items small) $
      fsplit ! $ flt_l ! (λ fit. closes_cells ! tt E κs qs x new vs b o e fit $
      returns ! (look_at ! 0 refl) $ free_all ! refl $ keep ! (0 ∷ 1 ∷ []) $
      has_every ! (Gives E n d items new) (refl, (refl, (refl, refl))) $
      feq_i ! (List Val) (vunit ∷ []) (vunit ∷ []) refl $ move ! (2 ∷ 3 ∷ 0 ∷ 1 ∷ []) $
      by ! (exits vunit tt new (tt, (all_rest (λ _. Unit {0}) (λ _. tt) items, tt)) tt)))))

pub put_array_spec : {M : Type 1} → stated.statement M
put_array_spec 𝓤 𝓛 𝓜 𝓡 wired X n LX fits y =
    let E : El = record { row = X; laws = LX } in let 𝓣 = tables 𝓤 𝓛.H 𝓜 𝓡 𝓡.env in
    meets_grown (call E n) 𝓛 𝓜 𝓡 2 (X.lives, ([], tt)) (#self (args E n)) (function E n)
    (code.unfolded 𝓤 𝓛.H 𝓜 𝓡 wired (X, (number n, tt))) (walk E n 𝓛 𝓣.C 𝓣.Λ) ((y.0.0, y.0.1, tt, y.0.3, y.0.4), y.1)
