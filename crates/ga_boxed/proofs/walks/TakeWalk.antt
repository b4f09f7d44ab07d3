-- The walk of `take_first` and `take_last`, which are the same code: all of it but how the item is cut from the cells,
-- and what is left of these. Assumes `Logic`.
use Rattle.ga_boxed.proofs.walks.Names
use Names.{ !, [], after, AllFacts, alloc_all, arith, assign, at_ret, bin, block, blocks, by, Call, Callee, Calls}
use Names.{clauses, Closed, closing, copy, deref, El, el_x, elτ, ended, ent, enter, Env, env, exec, facts, fat, field}
use Names.{first, fld, Fml, Fn, free_all, froom, full_share, get, get_in, give_at, grown, Had, has_every, keep, layout}
use Names.{length, List, load, local, Logic, look, look_at, Loops, meets_grown, Model, move, mul, mut, mut_vals, named}
use Names.{no, number, of_opd, offset, one_below, op2, part_at, pass_all, place, plain, Ptr, qed, R, refl, return}
use Names.{returns, rewrite, Running, rv_opd, sem, sep, seq, sets, sets_last, size_lit, size_of, split, stop, sub}
use Names.{subst, tables, take_at, through, times_below, Triple, Ty, ty_int, ty_ptr, ty_ref, unsigned, Ura, use1, use2}
use Names.{value_local, vint, w64, Walk, whole, word, word-Good, ‵, ℕ, ◌$◌, ◌*◌, ◌++◌, ◌+◌, ◌<◌, ◌^◌, ◌∙◌, ◌∵◌, ◌∷◌}
use Names.{◌≡◌, ◌≢◌, ◌⊛◌}
use Rattle.ga_boxed.proofs.walks.CellsWalk.{by_mut, closes_cells, opens_cells, the_base}
use Rattle.ga_boxed.proofs.walks.EndLemmas.{Held}
use Rattle.ga_boxed.proofs.walks.WalkParts.{Bs, Cr, sz, value_out}

module _ (E : El) where
  -- where the item stands in the cells
  abbrev pub Placing : Type 1
  Placing = (Cr E).Denot → ℕ → Type 0

  -- what is promised of the item and of the cells that are left
  abbrev pub Giving : Type 1
  Giving = (Cr E).Denot → el_x E → (Cr E).Denot → List (Type 0)

  abbrev pub taking : Placing → Giving → Call 1
  taking stands gives = record {
    outlives = [];
    me = by_mut E;
    behind = the_base E ∷ number no ∷ [];
    out = plain (λ _. R E);
    asks = λ κs x a. (a.0.ptr ≡ x.now.at) ∷ stands x.now a.1.0 ∷ (x.now.items ≢ []) ∷ [];
    gives = λ M 𝓤 𝓛 κs x a r w. facts 𝓤 (gives x.now r w.now);
  }

  -- the item at `index` is cut from the cells d, and the cells `new` are what is left, with its slot
  pub record Taken {M : Type 1} {𝓤 : Ura M} (𝓛 : Logic 𝓤) (gives : Giving) (d : (Cr E).Denot) (index : ℕ) : Type 1 where
    pub item : el_x E
    pub new : (Cr E).Denot
    pub given : AllFacts (gives d item new)
    pub at : new.at ≡ d.at
    pub within : index < d.passed + length d.items + d.room
    pub all : d.passed + length d.items + d.room ≡ new.passed + length new.items + new.room
    pub Others : ℕ → ℕ → Fml
    pub out : (b o : ℕ) → ent 𝓤 (sem 𝓛 (Held E 𝓛 b o d.passed d.items d.room))
        (sep 𝓤 (sem 𝓛 (part_at (R E) full_share item b (index * sz E + o))) (sem 𝓛 (Others b o)))
    pub back : (b o : ℕ) → ent 𝓤 (sep 𝓤 (𝓛.H.room (elτ E) b (index * sz E + o)) (sem 𝓛 (Others b o)))
        (sem 𝓛 (Held E 𝓛 b o new.passed new.items new.room))

  -- the code e of both, as it reads the slot; τ is the type of the cells
  abbrev reading : Fn → Ty → Fn
  reading e τ = record e {
    locals = local (elτ E) value_local ∷ local (ty_ref (named 0) mut τ) value_local ∷ local (layout (Bs E)) value_local
        ∷ local (ty_int w64) value_local ∷ local (elτ E) value_local ∷ local (ty_int w64) value_local
        ∷ local ty_ptr value_local ∷ [];
    body = seq (block
        (seq (assign (place 5 []) (op2 (mul unsigned) (copy (place 3 [])) (size_of (elτ E))))
        (seq (assign (place 6 []) (op2 offset (copy (place 2 (field 0 ∷ []))) (copy (place 5 []))))
        (assign (place 4 []) (rv_opd (copy (place 6 (deref (elτ E) ∷ []))))))))
        (seq (assign (place 0 []) (rv_opd (copy (place 4 [])))) return);
  }

  takes : (stands : Placing) (gives : Giving) {M : Type 1} {𝓤 : Ura M} (𝓛 : Logic 𝓤) (C : Calls 𝓤 𝓛.H)
      (Λ : Loops 𝓤 𝓛.H) (e : Fn) (τ : Ty)
      → ((d : (Cr E).Denot) (index : ℕ) → stands d index → d.items ≢ [] → Taken 𝓛 gives d index)
      → Walk (taking stands gives) 𝓛 C Λ (reading e τ)
  takes stands gives {𝓤 = 𝓤} 𝓛 C Λ e τ cut κs qs bounds x a w Post asked fine exits =
      let s = sz E in let d = x.now in let base = a.0 in let index = a.1.0 in let c = cut d index asked.1.0 asked.1.1 in
      let item = c.item in let all = d.passed + length d.items + d.room in
      qed 𝓛 (Had (taking stands gives) 𝓛 κs qs x a w) ∵ keep ! (0 ∷ 1 ∷ []) $
      enter ! C Λ (reading e τ) (mut_vals x ++ word base.ptr ∷ vint w64 index ∷ []) _ $ alloc_all !
      (λ l. pass_all ! refl ((tt, tt), (word-Good [] base.ptr, ((tt, record { fits = fine.1.0 }), tt))) $
      let En : Env 𝓤 𝓛.H = env (reading e τ).locals l in
      opens_cells ! tt E κs qs x (λ vs b o at small.
      let tiny : s < 2 ^ 64 = omega (arith, one_below all s (2 ^ 63) (omega (arith, c.within)) small) in
      let far : index * s < 2 ^ 64 = omega (arith, times_below index all s (2 ^ 63) (omega (arith, c.within)) small) in
      take_at ! 2 $ rewrite ! 0 (λ (p : Ptr). ‵ (fat full_share (layout (Bs E)) (l 2) 0 (word p)))
      (asked.0 ∙ at) refl $ give_at ! 2 $ first ! $ blocks ! $
      sets ! (bin ! (get ! refl) (size_lit ! (record { fits = tiny })) (record { fits = far })) refl
      (tt, record { fits = far }) $
      sets ! (bin ! (get_in ! (fld ! refl (stop !)) (sub ! 0 refl (whole !))) (get ! refl) tt) refl (tt, tt) $
      use1 𝓛 (‵ (part_at (R E) full_share item b (index * s + o)) ⊛ ‵ (c.Others b o)) (c.out b o) $ split ! $
      value_out ! E item b (index * s + o) (λ v good.
      -- [the item in its slot; what it owns; the other slots; the mark; its cell; the open borrow; obs; auth]
      sets_last ! (of_opd ! (load ! (through ! refl (stop !)) (look ! 0 refl))) refl good $
      exec ! C Λ En (after 1 (reading e τ).body) (at_ret En Post) $ sets ! (of_opd ! (get ! refl)) refl good $
      use1 𝓛 (‵ (froom (elτ E) b (index * s + o))) (𝓛.laws.at_room (elτ E) b (index * s + o) v) $ move ! (0 ∷ 2 ∷ []) $
      use2 𝓛 (‵ (Held E 𝓛 b o c.new.passed c.new.items c.new.room)) (c.back b o) $ move !
      (0 ∷ 2 ∷ 3 ∷ 4 ∷ 5 ∷ 6 ∷ 1 ∷ []) $
      closes_cells ! tt E κs qs x c.new vs b o (c.at ∙ at) (subst (λ k. k * s < 2 ^ 63) c.all small) $
      returns ! (look_at ! 0 refl) $ free_all ! refl $ keep ! (0 ∷ 1 ∷ 2 ∷ []) $
      has_every ! (gives d item c.new) c.given $ move ! (1 ∷ 2 ∷ 3 ∷ 0 ∷ []) $ by !
      (exits v item c.new (tt, (tt, tt)) tt))))

  -- the contract of such a call, from how the item is cut
  pub meets_taking : (stands : Placing) (gives : Giving) {M : Type 1} {𝓤 : Ura M} (𝓛 : Logic 𝓤) (𝓜 : Model 𝓤 𝓛.H)
      (𝓡 : Running 𝓤 𝓛.H 𝓜) (k : Callee) (e : Fn) (τ : Ty) → let 𝓣 = tables 𝓤 𝓛.H 𝓜 𝓡 𝓡.env in
      let c = taking stands gives in Closed 𝓤 𝓛.H 𝓣.C 𝓣.Λ k (reading e τ)
      → ((d : (Cr E).Denot) (index : ℕ) → stands d index → d.items ≢ [] → Taken 𝓛 gives d index)
      → Triple 𝓤 (𝓡.run (𝓡.env k)) (grown 𝓛 (ended c).signature 1 (E.row.lives, tt) (closing 𝓛 (ended c) (clauses c 𝓛)))
  meets_taking stands gives {𝓤 = 𝓤} 𝓛 𝓜 𝓡 k e τ closed cut =
      let 𝓣 = tables 𝓤 𝓛.H 𝓜 𝓡 𝓡.env in
      meets_grown (taking stands gives) 𝓛 𝓜 𝓡 1 (E.row.lives, tt) k (reading e τ) closed
      (takes stands gives 𝓛 𝓣.C 𝓣.Λ e τ cut)
