-- `deallocate` makes the block of its empty slots, and hands it back with the allocator's token, or for no slots lets
-- go of it. Assumes `Logic`.
use Rattle.ga_boxed.proofs.walks
use walks.{ !, [], after, Al, al_of, align, align_word, alloc_all, alloc_args, and_then, ap, arith, at_gives}
use walks.{at_ret, await, Behind, bin, block_align, block_ptr, block_size, block_ty, blocks, Bool, branches, Bs, by}
use walks.{by_ref, Call, calls_at_last, capped, capped_fits, cells_own, Cr, Dd, deed_owns, El, elτ, emp, ent, enter}
use walks.{Env, env, exec, feq_i, first, fld, flft, Fn, free_all, froom, fsplit, fsplit3, get, get_in, given, Gives}
use walks.{Gives-Gives, Gives-goes, gives_key, Goes, Goes-blank, group, Had, has_block, has_ty, id⊢, in_a_block}
use walks.{Incl-trans, inst_fn, Is, is, keep, lands_last, later, learn, Linked, linked, List, lit, Logic, look_at, mark}
use walks.{mark_Tells, meets, move, never, no, no_more, nothing, number, of_opd, others, owns_if, P, pass_all, plain}
use walks.{Ptr, ptr_val, qed, R, RattleType, raw, refl, returns, rewrite, sets, size_word, skips, stay_dropped, stop}
use walks.{sub, subst, sym, sz, T, T_true, the_base, to_block, token, tokens_in, tokens_out, told_by, Triple, ty_unit}
use walks.{uncapped, uncapped_fits, unit, unit_lit, Ura, use1, Val, vint, vptr, vunit, w64, Walk, whole, word}
use walks.{word-Good, WT, yes, ‵, ℕ, ⋆, ◌$◌, ◌*◌, ◌+◌, ◌<◌, ◌^◌, ◌∙◌, ◌∵◌, ◌∷◌, ◌≡◌, ◌⊑◌}
use Rattle.ga_boxed.specs.contracts.live_block.cells.deallocate as F
use Rattle.ga_boxed.specs.contracts.live_block.cells.deallocate.Key.{name as #self}
use Rattle.ga_boxed.proofs.live_block.cells.deallocate.Statement as stated
use Rattle.ga_boxed.proofs.live_block.cells.deallocate.Code as code

module _ (E : El) (Z : Al) where
  abbrev function : Fn
  function = inst_fn (alloc_args E Z) code.function

  abbrev Asks : Z.row.Denot → (Bs E).Denot → ℕ → (Cr E).Denot → (Dd E Z).Denot → List (Type 0)
  Asks a base len cells deed = (cells.at ≡ base.ptr) ∷ (cells.items ≡ []) ∷ (cells.passed + cells.room ≡ len)
      ∷ (deed.at ≡ base.ptr) ∷ (deed.len ≡ len) ∷ (deed.alloc ≡ a) ∷ []

  -- an owner that takes no bytes, and is used up
  abbrev spent : (S : RattleType) → ((x : S.Denot) (vs : List Val) → Is S x vs → vs ≡ mark ∷ [])
      → ((M : Type 1) (𝓤 : Ura M) (𝓛 : Logic 𝓤) → Goes 𝓛 3 (plain (λ _. S)) no (stay_dropped (plain (λ _. S)) no))
      → Behind 3
  spent S told = told_by S no (λ _. mark ∷ []) (λ _. Unit {0}) (λ x vs is. (told x vs is, tt))

  abbrev call : Call 3
  call = record {
    outlives = (F.ended E.row Z.row Z.g Z.d Z.drops).signature.outlives;
    me = by_ref (P E Z) tt;
    behind = the_base E ∷ number yes
        ∷ spent (Cr E) (λ x vs is. mark_Tells E (tt, tt) vs is.0)
        (λ M 𝓤 𝓛. Goes-blank 𝓛 3 (plain (λ _. Cr E)) no (λ κs x f. tt))
        ∷ spent (Dd E Z) (λ x vs is. mark_Tells E (tt, tt) vs is.0)
        (λ M 𝓤 𝓛. Goes-blank 𝓛 3 (plain (λ _. Dd E Z)) no (λ κs x f. tt)) ∷ [];
    out = plain (λ _. unit);
    asks = λ κs x a. (κs.1.0 ⊑ E.row.lives) ∷ (κs.1.1.0 ⊑ Z.row.lives)
        ∷ Asks x.now a.0 a.1.0 a.1.1.0 a.1.1.1.0;
    gives = λ M 𝓤 𝓛 κs x a r w. emp 𝓤;
  }

module _ (E : El) (Z : Al) {M : Type 1} {𝓤 : Ura M} (𝓛 : Logic 𝓤) (link : Linked 𝓛)
    (callee : Triple 𝓤 (link.C (gives_key Z)) (Gives Z 𝓛 link.at_mem link.run)) where
  open link use {at_mem, run, C, Λ}

  walk : Walk (call E Z) 𝓛 C Λ (function E Z)
  walk κs qs bounds x ns w Post asked fine ends =
      let within = asked.1.0 in let said = asked.1.1 in
      let base_is = said.0 in let items_is = said.1.0 in let room_is = said.1.1.0 in let deed_at = said.1.1.1.0 in
      let deed_len = said.1.1.1.1.0 in let deed_alloc = said.1.1.1.1.1 in
      let rb = x.ref_ptr.0 in let ro = x.ref_ptr.1 in let a = x.now in let base = ns.0 in let len = ns.1.0 in
      let cells = ns.1.1.0 in let deed = ns.1.1.1.0 in let fits = fine.1.0 in let κ = κs.0 in let q = qs.0 in
      let exits : ent 𝓤 (⋆ 𝓛 (‵ (flft κ q) ∷ others κs qs ∷ [])) (Post vunit) =
      qed 𝓛 (‵ (flft κ q) ∷ others κs qs ∷ []) ∵ tokens_in ! κs qs $ nothing ! $ feq_i ! (List Val) (vunit ∷ [])
      (vunit ∷ []) refl $ nothing ! $ move ! (2 ∷ 3 ∷ 1 ∷ 0 ∷ []) $
      by ! (ends vunit tt tt (tt, (tt, (tt, (tt, tt)))) tt) in
      qed 𝓛 (Had (call E Z) 𝓛 κs qs x ns w) ∵ fsplit ! $ move ! (2 ∷ []) $ tokens_out ! κs qs $ move !
      (4 ∷ []) $ fsplit3 ! $ move ! (2 ∷ []) $ fsplit ! $ fsplit ! $ move ! (2 ∷ []) $ fsplit ! $ fsplit ! $ keep !
      (4 ∷ 1 ∷ 10 ∷ 7 ∷ 8 ∷ []) $
      enter ! C Λ (function E Z) (vptr rb ro ∷ word base.ptr ∷ vint w64 len ∷ mark ∷ mark ∷ []) _ $
      alloc_all ! (λ l. pass_all ! refl (
        (tt, tt),
        (word-Good [] base.ptr, ((tt, record { fits = fits }), ((tt, (tt, tt)), ((tt, (tt, tt)), tt)))),
      ) $
      let En : Env 𝓤 𝓛.H = env (function E Z).locals l in
      let s = sz E in let al : ℕ = capped (align (elτ E)) in
      sets ! (bin ! (get ! refl) (lit ! tt) tt) refl (tt, tt) $ first ! $ branches ! (get ! refl)
      (λ t.
      rewrite ! 0 (λ (c : Ptr × List E.row.Denot). ‵ (cells_own (R E) c.0 cells.passed c.1 cells.room))
      (λ i. (base_is i, items_is i)) refl $
      in_a_block ! base.ptr (λ p. cells_own (R E) p cells.passed [] cells.room) (id⊢ 𝓤 (never 𝓤)) (λ b o e.
      use1 𝓛 (given (len * s < 2 ^ 63) (‵ (froom (block_ty E len) b o)))
      (to_block E 𝓛 b o cells.passed cells.room len room_is) $ learn ! (λ small.
      let bytes : len * s < 2 ^ 64 = omega arith in
      let y : (Gives Z 𝓛 at_mem run).Ghost = at_gives Z 𝓛 at_mem run κ q (rb, ro) a b o (len * s) al (block_ty E len) in
      rewrite ! 1 (λ (d : Z.row.Denot × Ptr × ℕ). ‵ (deed_owns (R E) (token Z d.0) d.1 d.2))
      (λ i. (deed_alloc i, (deed_at ∙ e) i, deed_len i)) refl $
      rewrite ! 1 (λ (z : Bool). ‵ (owns_if z (token Z a (block_ty E len) (block_ptr b o))))
      (T_true (has_block len) t) refl $ blocks ! $
      sets ! (is ! (of_opd ! (get_in ! (fld ! refl (stop !)) (sub ! 0 refl (whole !)))) (ap ptr_val e)) refl (tt, tt) $
      sets ! (is ! (bin ! (get ! refl) (size_word !) (record { fits = uncapped_fits len s bytes }))
      (ap (vint w64) (uncapped len s bytes))) refl (tt, record { fits = bytes }) $
      group ! 4 $ use1 𝓛 (raw ((Gives Z 𝓛 at_mem run).pre y))
      (Gives-goes Z 𝓛 at_mem run κ q (rb, ro) a (Incl-trans bounds.0 within) b o (len * s) al (block_ty E len)
      (block_size E len bytes) (block_align E len) bytes (capped_fits (align (elτ E)))) $
      calls_at_last ! link.framed (Gives Z 𝓛 at_mem run) callee y
      (and_then ! (get ! refl) (and_then ! (get ! refl)
      (and_then ! (get ! refl) (and_then ! (align_word !) (no_more !))))) (λ v.
      use1 𝓛 (later (given (v ≡ vunit) (‵ (flft κ q))))
      (Gives-Gives Z 𝓛 at_mem run κ q (rb, ro) a b o (len * s) al (block_ty E len) v) $ await ! tt $ learn !
      (λ done_with.
      lands_last ! refl (subst (λ (z : Val). T (has_ty ty_unit z) × WT z) (sym done_with) (tt, tt)) $ exec ! C Λ En
      (after 2 (function E Z).body) (at_ret En Post) $
      sets ! (of_opd ! (unit_lit !)) refl (tt, tt) $ returns ! (look_at ! 0 refl) $ free_all ! refl $ keep !
      (0 ∷ 1 ∷ []) $ by ! exits)))))
      (λ t. skips ! $ exec ! C Λ En (after 2 (function E Z).body) (at_ret En Post) $
      sets ! (of_opd ! (unit_lit !)) refl (tt, tt) $ returns ! (look_at ! 0 refl) $ free_all ! refl $ keep !
      (3 ∷ 4 ∷ []) $ by ! exits))

pub deallocate_spec : {M : Type 1} → stated.statement M
deallocate_spec 𝓤 𝓛 𝓜 𝓡 wired X W LX LW g d dd met md =
    let E : El = record { row = X; laws = LX } in let Z = al_of W LW g d dd in
    meets (call E Z) 𝓛 𝓜 𝓡 (#self (alloc_args E Z)) (function E Z) (code.unfolded 𝓤 𝓛.H 𝓜 𝓡 wired (X, (W, tt)) d dd)
    (walk E Z 𝓛 (linked 𝓛 𝓜 𝓡) (met.deallocate dd))
