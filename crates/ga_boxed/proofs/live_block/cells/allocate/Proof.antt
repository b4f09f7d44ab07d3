-- `allocate` owns the new block as room, or for no slots nothing, with the right to free it. Assumes `Logic`.
use Rattle.ga_boxed.proofs.walks
use walks.{ !, [], addr, after, after_seq, agg, Al, al_of, align, align_word, all_empty, AllFacts, alloc_all}
use walks.{alloc_args, and_then, Answer-typed, Answered, answers, any_q, ap, arith, arm_body, at_ret, at_return}
use walks.{at_takes, await, bin, block_align, block_ptr, block_size, block_ty, Bool, branches, Bs, by, by_ref, Call}
use walks.{calls_at, capped, capped_fits, cells_own, Code as Body, Cr, Dd, deed_owns, El, elτ, ent, enter, Env, env}
use walks.{eqb→eq, exec, facts, false, first, first_Good, fjoin, fld, flft, Fn, free_all, from, fsplit, get, get_in}
use walks.{get_tag, Good, Had, has_block, has_every, head, Incl-trans, inst_fn, Is, is, is_not, keep, lands_as, later}
use walks.{layout, Linked, linked, List, lit, lit<, live, Logic, look_at, Mark, mark, mark_made, meets, move, no_more}
use walks.{none_empty, nothing, number, of_opd, others, owned, owns_if, P, pass_all, plain, Post as After, Ptr, qed, R}
use walks.{RattleType, raw, refl, returns, returns_within, rewrite, sem, sep, sets, sets_last, size_word, skips, split}
use walks.{stop, Struct, Struct-Makes, switches_on, sym, sz, T_true, Takes, Takes-gives, Takes-goes, takes_key}
use walks.{three_of, three_val, token, tokens_in, tokens_out, Triple, true, Tuple, uncapped, uncapped_fits, Ura, use0}
use walks.{use1, use2, use3, Val, vcons, vint, vnil, vptr, vstruct, w64, Walk, whole, word, word-Good, word_made, Wp}
use walks.{yes, ‵, ℕ, ⋆, ◌$◌, ◌*◌, ◌<◌, ◌^◌, ◌∵◌, ◌∷◌, ◌≡◌, ◌⊑◌, ◌⊛◌}
use types.Match.{vrt, in_variant}
use denote.Struct.Declared as Declared
use Rattle.std.specs.Prelude.{Err, IfOk, IsOk, Ok}
use Rattle.std.specs.contracts.result.Result as RS
use Rattle.std.specs.contracts.alloc.AllocError as AE
use Rattle.std.proofs.ResultValues.{ok_of, err_of}
use Rattle.ga_boxed.specs.contracts.live_block.cells.allocate as F
use Rattle.ga_boxed.specs.contracts.live_block.cells.allocate.Key.{name as #self}
use Rattle.ga_boxed.proofs.live_block.cells.allocate.Statement as stated
use Rattle.ga_boxed.proofs.live_block.cells.allocate.Code as code

module _ (E : El) (Z : Al) where
  abbrev function : Fn
  function = inst_fn (alloc_args E Z) code.function

  abbrev Three : RattleType
  Three = Tuple (Bs E ∷ Cr E ∷ Dd E Z ∷ [])

  abbrev Out : RattleType
  Out = RS.the_row Three AE.the_row

  abbrev Gives : Z.row.Denot → ℕ → Out.Denot → List (Type 0)
  Gives a len r =
      IfOk r (λ t. t.1.at ≡ t.0.ptr) ∷ IfOk r (λ t. t.1.passed ≡ 0) ∷ IfOk r (λ t. t.1.items ≡ [])
      ∷ IfOk r (λ t. t.1.room ≡ len)
      ∷ IfOk r (λ t. t.2.at ≡ t.0.ptr) ∷ IfOk r (λ t. t.2.len ≡ len) ∷ IfOk r (λ t. t.2.alloc ≡ a) ∷ (len ≡ 0 → IsOk r)
      ∷ []

  abbrev call : Call 3
  call = record {
    outlives = (F.ended E.row Z.row Z.g Z.d Z.drops).signature.outlives;
    me = by_ref (P E Z) tt;
    behind = number yes ∷ [];
    out = plain (λ _. Out);
    asks = λ κs x a. (κs.1.0 ⊑ E.row.lives) ∷ (κs.1.1.0 ⊑ Z.row.lives) ∷ (a.0 * sz E < 2 ^ 63) ∷ [];
    gives = λ M 𝓤 𝓛 κs x a r w. facts 𝓤 (Gives x.now a.0 r);
  }

-- the parts of a block of n slots
module _ (E : El) (Z : Al) (a : Z.row.Denot) (b o : ℕ) where
  abbrev p : Ptr
  p = block_ptr b o

  abbrev parts : ℕ → (Three E Z).Denot
  parts n = (
    record { ptr = p },
    record { mark = record {}; at = p; passed = 0; items = []; room = n },
    record { mark = record {}; at = p; len = n; alloc = a },
  )

  abbrev made : Val
  made = three_val (word p) mark mark

  abbrev answer : Val
  answer = live 0 (vcons made vnil)

  typed : Good (layout (Three E Z)) made
  typed = (tt, ((tt, tt), ((tt, tt), ((tt, tt), tt))))

  answered : {M : Type 1} {𝓤 : Ura M} (𝓛 : Logic 𝓤) (n : ℕ)
      → ent 𝓤 (sep 𝓤 (sem 𝓛 (deed_owns (R E) (token Z a) p n)) (sem 𝓛 (cells_own (R E) p 0 [] n)))
      (sem 𝓛 ((Out E Z).own_val (Ok (parts n)) (answer ∷ [])))
  answered 𝓛 n =
      qed 𝓛 (‵ (deed_owns (R E) (token Z a) p n) ∷ ‵ (cells_own (R E) p 0 [] n) ∷ []) ∵
      use0 𝓛 (‵ ((Mark E).own_val (tt, tt) (mark ∷ []))) (mark_made E 𝓛) $ fjoin ! $ move ! (1 ∷ []) $
      use0 𝓛 (‵ ((Mark E).own_val (tt, tt) (mark ∷ []))) (mark_made E 𝓛) $ fjoin ! $ word_made ! p $
      use3 𝓛 (‵ ((Three E Z).own_val (parts n) (made ∷ [])))
      (three_of 𝓛 (Bs E) (Cr E) (Dd E Z) (parts n).0 (parts n).1 (parts n).2 (word p) mark mark) $
      by ! (ok_of 𝓛 (Three E Z) AE.the_row (parts n) made)

module _ (E : El) (Z : Al) {M : Type 1} {𝓤 : Ura M} (𝓛 : Logic 𝓤) (link : Linked 𝓛)
    (callee : Triple 𝓤 (link.C (takes_key Z)) (Takes Z 𝓛 link.at_mem link.run)) where
  open link use {at_mem, run, C, Λ}

  walk : Walk (call E Z) 𝓛 C Λ (function E Z)
  walk κs qs bounds x ns w Post asked fine ends =
      let short = bounds.0 in let within = asked.1.0 in let small = asked.1.1 in let fits = fine.0 in
      let rb = x.ref_ptr.0 in let ro = x.ref_ptr.1 in let a = x.now in let len = ns.0 in
      let κ = κs.0 in let q = qs.0 in let s = sz E in let bytes : len * s < 2 ^ 64 = omega (arith, small) in
      let exits : (r : (Out E Z).Denot) (v : Val) → AllFacts (Gives E Z a len r)
      → ent 𝓤 (⋆ 𝓛 (‵ ((Out E Z).own_val r (v ∷ [])) ∷ ‵ (flft κ q) ∷ others κs qs ∷ [])) (Post v) = λ r v g.
      qed 𝓛 (‵ ((Out E Z).own_val r (v ∷ [])) ∷ ‵ (flft κ q) ∷ others κs qs ∷ []) ∵
      has_every ! (Gives E Z a len r) g $ move ! (2 ∷ 3 ∷ []) $ tokens_in ! κs qs $ nothing ! $
      move ! (0 ∷ 1 ∷ 3 ∷ 2 ∷ []) $ by ! (ends v r tt (tt, tt) tt) in
      let bare : Unit {0} × (Unit {0} × Unit {0}) = (tt, (tt, tt)) in
      let all = λ (b o : ℕ). exits (Ok (parts E Z a b o len)) (answer E Z a b o)
      (refl, (refl, (refl, (refl, (refl, (refl, (refl, λ _. refl))))))) in
      qed 𝓛 (Had (call E Z) 𝓛 κs qs x ns w) ∵ keep ! (0 ∷ 1 ∷ []) $ fsplit ! $ move ! (2 ∷ []) $
      tokens_out ! κs qs $ keep ! (3 ∷ 0 ∷ 1 ∷ []) $
      enter ! C Λ (function E Z) (vptr rb ro ∷ vint w64 len ∷ []) _ $ alloc_all !
      (λ l. pass_all ! refl ((tt, tt), ((tt, record { fits = fits }), tt)) $
      let En : Env 𝓤 𝓛.H = env (function E Z).locals l in
      sets ! (bin ! (get ! refl) (lit ! tt) tt) refl (tt, tt) $ first ! $ branches ! (get ! refl)
      (λ t.
      let zero : len ≡ 0 = eqb→eq len 0 t in
      let b = l 3 in let at : Ptr = block_ptr b 0 in
      let ok = first_Good (layout (Three E Z)) (made E Z a b 0) (typed E Z a b 0) in
      sets ! (agg ! (no_more !)) refl (tt, tt) $ sets ! (addr ! (from ! (stop !))) refl (tt, tt) $
      sets ! (agg ! (and_then ! (get ! refl) (no_more !))) refl (word-Good [] at) $
      sets ! (agg ! (no_more !)) refl (tt, tt) $ sets ! (agg ! (and_then ! (get ! refl) (no_more !))) refl bare $
      sets ! (agg ! (no_more !)) refl (tt, tt) $ sets ! (agg ! (and_then ! (get ! refl) (no_more !))) refl bare $
      sets ! (agg ! (and_then ! (get ! refl) (and_then ! (get ! refl) (and_then ! (get ! refl) (no_more !))))) refl
      (typed E Z a b 0) $ sets ! (agg ! (and_then ! (lit ! tt) (and_then ! (get ! refl) (no_more !)))) refl ok $
      use0 𝓛 (‵ (cells_own (R E) at 0 [] 0)) (none_empty E 𝓛 b 0) $ nothing ! $
      use2 𝓛 (‵ ((Out E Z).own_val (Ok (parts E Z a b 0 0)) (answer E Z a b 0 ∷ []))) (answered E Z a b 0 𝓛 0) $
      rewrite ! 0 (λ (n : ℕ). ‵ ((Out E Z).own_val (Ok (parts E Z a b 0 n)) (answer E Z a b 0 ∷ []))) (sym zero) refl $
      returns_within ! Post refl (look_at ! 0 refl) $ free_all ! refl $ keep ! (0 ∷ 2 ∷ 3 ∷ []) $ by ! (all b 0))
      (λ t. skips ! $ exec ! C Λ En (after 2 (function E Z).body) (at_ret En Post) $
      let both : Body = head (after 4 (function E Z).body) in
      let Then : After 𝓤 𝓛.H =
      any_q (after_seq 𝓤 𝓛.H (Wp 𝓤 𝓛.H C Λ En (after 5 (function E Z).body) (at_return 𝓤 𝓛.H En Post))
      (at_return 𝓤 𝓛.H En Post)) in
      let al : ℕ = capped (align (elτ E)) in
      let y : (Takes Z 𝓛 at_mem run).Ghost = at_takes Z 𝓛 at_mem run κ q (rb, ro) a (len * s) al (block_ty E len) in
      sets ! (is ! (bin ! (get ! refl) (size_word !) (record { fits = uncapped_fits len s bytes }))
      (ap (vint w64) (uncapped len s bytes))) refl (tt, record { fits = bytes }) $
      use2 𝓛 (raw ((Takes Z 𝓛 at_mem run).pre y)) (Takes-goes Z 𝓛 at_mem run κ q (rb, ro) a (Incl-trans short within)
      (len * s) al (block_ty E len) (block_size E len bytes) (block_align E len) bytes (capped_fits (align (elτ E))))
      $
      calls_at ! link.framed (Takes Z 𝓛 at_mem run) callee y
      (and_then ! (get ! refl) (and_then ! (get ! refl) (and_then ! (align_word !) (no_more !)))) (λ v.
      use1 𝓛 (later (raw (Answered Z 𝓛 at_mem run a (block_ty E len) v) ⊛ ‵ (flft κ q)))
      (Takes-gives Z 𝓛 at_mem run κ q (rb, ro) a (len * s) al (block_ty E len) v) $ await ! tt $ split ! $
      answers Z ! at_mem run a (block_ty E len) v
      (λ b o e.
      let at : Ptr = block_ptr b o in let ok = first_Good (layout (Three E Z)) (made E Z a b o) (typed E Z a b o) in
      lands_as ! e refl (Answer-typed true b o) $ first ! $ switches_on !
      (get_tag ! (vrt ! refl (fld ! refl (stop !))) (whole !)) $ exec ! C Λ En (arm_body 0 both) Then $
      sets ! (of_opd ! (get_in ! (vrt ! refl (fld ! refl (stop !))) (in_variant ! 0 0 refl refl (whole !)))) refl
      (tt, tt) $ sets ! (of_opd ! (get ! refl)) refl (tt, tt) $
      sets ! (agg ! (and_then ! (get ! refl) (no_more !))) refl (word-Good [] at) $
      sets ! (agg ! (no_more !)) refl (tt, tt) $ sets ! (agg ! (and_then ! (get ! refl) (no_more !))) refl bare $
      sets ! (agg ! (no_more !)) refl (tt, tt) $ sets ! (agg ! (and_then ! (get ! refl) (no_more !))) refl bare $
      sets ! (agg ! (and_then ! (get ! refl) (and_then ! (get ! refl) (and_then ! (get ! refl) (no_more !))))) refl
      (typed E Z a b o) $ sets_last ! (agg ! (and_then ! (lit ! tt) (and_then ! (get ! refl) (no_more !)))) refl ok $
      exec ! C Λ En (after 5 (function E Z).body) (at_ret En Post) $ sets ! (of_opd ! (get ! refl)) refl ok $
      use1 𝓛 (‵ (cells_own (R E) at 0 [] len)) (all_empty E 𝓛 b o len small) $
      move ! (1 ∷ []) $ rewrite ! 0 (λ (z : Bool). ‵ (owns_if z (token Z a (block_ty E len) at)))
      (sym (T_true (has_block len) t)) refl $
      use2 𝓛 (‵ ((Out E Z).own_val (Ok (parts E Z a b o len)) (answer E Z a b o ∷ []))) (answered E Z a b o 𝓛 len) $
      returns ! (look_at ! 0 refl) $ free_all ! refl $ keep ! (0 ∷ 1 ∷ 2 ∷ []) $ by ! (all b o))
      (λ e.
      let Refusal : RattleType = Struct (Declared.shape AE.the_type) in
      let none : Val = live 1 (vcons (vstruct vnil) vnil) in
      lands_as ! e refl (Answer-typed false 0 0) $ first ! $ switches_on !
      (get_tag ! (vrt ! refl (fld ! refl (stop !))) (whole !)) $ exec ! C Λ En (arm_body 1 both) Then $
      sets ! (of_opd ! (get_in ! (vrt ! refl (fld ! refl (stop !))) (in_variant ! 1 0 refl refl (whole !)))) refl
      (tt, tt) $
      sets_last ! (agg ! (and_then ! (lit ! tt) (and_then ! (get ! refl) (no_more !)))) refl
      (tt, (record { fits = lit< tt }, (tt, tt))) $
      exec ! C Λ En (after 5 (function E Z).body) (at_ret En Post) $ sets ! (of_opd ! (get ! refl)) refl
      (tt, (record { fits = lit< tt }, (tt, tt))) $
      owned ! Refusal (Is Refusal) (Struct-Makes 𝓛 (Declared.shape AE.the_type) tt) tt (vstruct vnil ∷ [])
      (tt, (refl, tt)) $
      use1 𝓛 (‵ ((Out E Z).own_val (Err (record {})) (none ∷ [])))
      (err_of 𝓛 (Three E Z) AE.the_row (record {}) (vstruct vnil)) $
      returns ! (look_at ! 0 refl) $ free_all ! refl $ keep ! (0 ∷ 1 ∷ 2 ∷ []) $ by !
      (exits (Err (record {})) none (tt, (tt, (tt, (tt, (tt, (tt, (tt, λ z. absurd (is_not len 0 t z)))))))))))))

pub allocate_spec : {M : Type 1} → stated.statement M
allocate_spec 𝓤 𝓛 𝓜 𝓡 wired X W LX LW g d dd met md =
    let E : El = record { row = X; laws = LX } in let Z = al_of W LW g d dd in
    meets (call E Z) 𝓛 𝓜 𝓡 (#self (alloc_args E Z)) (function E Z) (code.unfolded 𝓤 𝓛.H 𝓜 𝓡 wired (X, (W, tt)) d dd)
    (walk E Z 𝓛 (linked 𝓛 𝓜 𝓡) (met.allocate dd))
