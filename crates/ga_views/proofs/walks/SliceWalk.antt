-- A walk of a function that takes a slice for writing, and nothing else, and gives it up: all of it but what the
-- function asks, what it gives and its own steps. Assumes `Logic`.
use Rattle.ga_views.proofs.walks.Names
use Names.{alive, AllOutlive, at_exit, call, Callee, Calls, Clauses, Closed, closing, Code, Contract, emp, Ended, ent}
use Names.{Env, fact, flft, FmC, Fn, ftrue, Goes-spent_slice, group, has_of, id⊢, Item, lands, leaves, length, Lft}
use Names.{Lfts, List, Logic, Loops, MachineTables, Meets, Model, move, mut_slice_Tells, mut_slice_vals, MutBor, named}
use Names.{no, nothing, on_entry, Opds, Operand, Outlives, owns, param, Place, plain, Post, proved, RattleType, raw}
use Names.{Running, runs, sem, sep, Seq, seq, Shares, slice_val, SliceRefMutOf, Slot, SProp, stay_dropped, Stays, suc}
use Names.{tables, Triple, type_at, types_at, Ura, Val, WpFn, [], ‵, ℕ, ◌$◌, ◌<◌, ◌^◌, ◌∷◌, ◌⊑◌, ◌⊛◌}
use Rattle.ga_views.proofs.walks.CallStep.{asked, Called, calls}

-- the slice is lent for the first lifetime of `more` and one, and its items' type is the function's first type
-- parameter
module _ (more : ℕ) (outlives : List (Outlives (suc more))) (X : RattleType) (result : Slot (suc more)) where
  abbrev E : RattleType
  E = param 0 X

  abbrev Items : Type 0
  Items = MutBor (List E.Denot)

  abbrev taken : Slot (suc more)
  taken = SliceRefMutOf (0 ∷ []) tt (plain (λ _. E)) (λ _. tt)

  abbrev ended : Ended
  ended = record {
    signature = record { lifetimes = suc more; outlives = outlives; params = taken ∷ []; result = result };
    kept = (no, tt);
  }

  abbrev kept : Stays ended.signature.params ended.kept
  kept = (stay_dropped taken no, tt)

-- such a function, at its clauses
module _ (more : ℕ) {outlives : List (Outlives (suc more))} (X : RattleType) {result : Slot (suc more)} {M : Type 1}
    {𝓤 : Ura M} (𝓛 : Logic 𝓤) (c : Clauses 𝓤 (ended more outlives X result)) where
  open 𝓛 use {H}

  abbrev T : Ended
  T = ended more outlives X result

  abbrev hs : Stays T.signature.params T.kept
  hs = kept more outlives X result

  module _ (κs : Lfts (suc more)) (qs : Shares (suc more)) (s : Items more outlives X result)
      (g : (c κs (s, tt)).ghost) where
    -- what there is at the start: the tokens with the slice, and what is asked
    abbrev Had : SProp 𝓤
    Had = sep 𝓤 (on_entry 𝓛 T.signature κs qs (s, tt) (mut_slice_vals s, tt)) ((c κs (s, tt)).requires g)

    -- what there is to be at the end: the tokens, nothing of the slice, the result, and what is promised of it
    abbrev Left : Val → (type_at result κs).Denot → SProp 𝓤
    Left v r =
        sep 𝓤 (alive 𝓛 T.signature κs qs)
        (sep 𝓤 (sem 𝓛 (has_of κs T.signature.params T.kept hs (s, tt) (tt, tt) (mut_slice_vals s, tt)))
        (sep 𝓤 (sem 𝓛 ((type_at result κs).own_val r (v ∷ [])))
        ((c κs (s, tt)).ensures g r (at_exit T κs (s, tt) (tt, tt)))))

  module _ (𝓜 : Model 𝓤 H) (𝓡 : Running 𝓤 H 𝓜) where
    abbrev 𝓣 : MachineTables 𝓤 H 𝓜
    𝓣 = tables 𝓤 H 𝓜 𝓡 𝓡.env

    -- the function's contract, from its walk, which is given how it ends
    pub gives_up : (k : Callee) (e : Fn) → Closed 𝓤 H 𝓣.C 𝓣.Λ k e
        → ((κs : Lfts (suc more)) (qs : Shares (suc more)) (bounds : AllOutlive (suc more) outlives κs)
        (s : Items more outlives X result) (g : (c κs (s, tt)).ghost) → length s.now < 2 ^ 64
        → (Post : Val → SProp 𝓤) → ((v : Val) (r : (type_at result κs).Denot) → ent 𝓤 (Left κs qs s g v r) (Post v))
        → ent 𝓤 (Had κs qs s g) (WpFn 𝓤 H 𝓣.C 𝓣.Λ e (slice_val s.ref_ptr (length s.now) ∷ []) Post))
        → Meets 𝓛 T.signature (𝓣.C k) (closing 𝓛 T c)
    gives_up k e closed walk =
        proved 𝓛 T hs c 𝓜 𝓡 (Goes-spent_slice 𝓛 (suc more) (0 ∷ []) tt (plain (λ _. param 0 X)), tt) k e closed
        (λ κs. (mut_slice_vals, tt)) (λ κs. (mut_slice_Tells (named 0) κs.0 (param 0 X), tt))
        (λ κs qs bounds a g are. walk κs qs bounds a.0 g are.0.0.1.0 _
        (λ v r. leaves 𝓛 T hs c ((κs, qs, bounds, a, (mut_slice_vals a.0, tt)), g) v r (tt, tt) (tt, tt)))

-- what a call asks of the lifetimes of two type parameters, before what else it asks
module _ {M : Type 1} {𝓤 : Ura M} (𝓛 : Logic 𝓤) where
  pub asks_of : {κT κN ℓT ℓN : Lft} {P : SProp 𝓤} → κT ⊑ ℓT → κN ⊑ ℓN → ent 𝓤 (emp 𝓤) P
      → ent 𝓤 (emp 𝓤) (sep 𝓤 (fact 𝓤 (κT ⊑ ℓT)) (sep 𝓤 (fact 𝓤 (κN ⊑ ℓN)) P))
  asks_of lT lN others = asked 𝓛 lT (asked 𝓛 lN others)

-- the call of such a function, where it has two type parameters, as a step of its caller's walk
module _ {outlives : List (Outlives 3)} (X : RattleType) {result : Slot 3} {M : Type 1} {𝓤 : Ura M} (𝓛 : Logic 𝓤)
    (c : Clauses 𝓤 (ended 2 outlives X result)) where
  open 𝓛 use {H}

  abbrev Callable : Ended
  Callable = ended 2 outlives X result

  abbrev pub Passed : Contract 𝓤
  Passed = Called 𝓛 Callable c

  module _ (κs : Lfts 3) (qs : Shares 3) (bounds : AllOutlive 3 outlives κs) (s : Items 2 outlives X result)
      (g : (c κs (s, tt)).ghost) where
    abbrev pub passed_at : Passed.Ghost
    passed_at = ((κs, qs, bounds, (s, tt), (mut_slice_vals s, tt)), g)

    abbrev tokens : Item 𝓤
    tokens = ‵ (flft κs.0 qs.0) ⊛ ‵ (flft κs.1.0 qs.1.0) ⊛ ‵ (flft κs.1.1.0 qs.1.1.0) ⊛ ‵ ftrue

    module _ {K : Type 0} {Γ : List (Item 𝓤)} {G : Env 𝓤 H} {C : Calls 𝓤 H} {Λ : Loops 𝓤 H} {f : Callee}
        {xs : List Operand} {p : Place} {rest : Code} {post : Post 𝓤 H} where
      -- the call takes the three tokens and the slice; it gives the result, what is promised of it, and the tokens
      pub passes : K → FmC 𝓤 H 𝓛.laws C → Triple 𝓤 (C f) Passed → ent 𝓤 (emp 𝓤) ((c κs (s, tt)).requires g)
          → Opds K 𝓛 (raw (Passed.pre passed_at) ∷ Γ) G xs (Passed.args passed_at)
          → ((v : Val) (r : (type_at result κs).Denot)
          → Seq K 𝓛 (‵ ((type_at result κs).own_val r (v ∷ []))
          ∷ raw ((c κs (s, tt)).ensures g r (at_exit Callable κs (s, tt) (tt, tt))) ∷ tokens ∷ Γ)
          (lands C Λ G p v rest post))
          → Seq K 𝓛 (‵ (flft κs.0 qs.0) ∷ ‵ (flft κs.1.0 qs.1.0) ∷ ‵ (flft κs.1.1.0 qs.1.1.0)
          ∷ ‵ (owns (types_at Callable.signature.params κs) (s, tt) (mut_slice_vals s, tt)) ∷ Γ)
          (runs C Λ G (seq (call f xs p) rest) post)
      passes t framed met asked read then =
          nothing t $ move t (1 ∷ 2 ∷ 3 ∷ 0 ∷ []) $ group t 4 $
          calls 𝓛 Callable c κs qs bounds (s, tt) (mut_slice_vals s, tt) g
          (λ r. raw ((c κs (s, tt)).ensures g r (at_exit Callable κs (s, tt) (tt, tt)))) t framed met asked (id⊢ 𝓤 _)
          (λ v. id⊢ 𝓤 _) read then
