-- A default body of `Store` that lends a part of the slice which the store's own `as_mut_slice` lends, and takes
-- numbers.
--     args, S, R      the arguments that stand for its two parameters, the type of the store, and that of an item
--     loan_of         what such a function asks and gives, as `LoanWalk` has it
--     calls_slice     the call as a step of a walk: the store that was passed and the tokens are what it asks; it gives
--                     the slice, taken apart, and the store follows the slice
-- Assumes `Logic`.
use Rattle.ga_views.proofs.walks.Names
use Names.{a_type, AllOutlive, ap, Args, Arr, Array, await, Body, bounded, call, Callee, Calls, calls_at, Code}
use Names.{coded_list, Contract, dcons, Dict, dnil, drop, emp, Env, fact, fact_i, fbor, feq_l, fjoin, flft, FmC, Fml}
use Names.{fobs, follows, fsep, fsplit, fsplit3, ftrue, Fun, GName, heard, heres, Holey, id⊢, Item, join, lands, later}
use Names.{length, Lfts, List, Logic, Loops, mem, Memory, move, mut_vals, MutBor, MutRef, MutSlice, named, nothing}
use Names.{only, Opds, Operand, param, pick, Place, plain, Post, RattleType, raw, room, Room, Routine, runs, seq, Seq}
use Names.{Shares, slice_val, Slot, some, split, split3, SProp, toks, Triple, triple_of, Ura, use0, use1, Val, [], ‵, ℕ}
use Names.{◌$◌, ◌∷◌, ◌≡◌, ◌⊑◌, ◌⊛◌}
use Rattle.ga_core.specs.contracts.store.Store.as_mut_slice as callee
use Rattle.ga_core.specs.declared.store.Store as store
use Rattle.ga_views.proofs.walks.LoanWalk.{Loan, Words}
use denote.Shadow.{pure_l}

module _ (Z X : RattleType) (g : store.Ghosts Z.Denot X.Denot) (d dd : Dict) where
  abbrev pub args : Args
  args = bounded (a_type ∷ a_type ∷ []) (Z, (X, tt)) (dcons d (dcons dd dnil))

  abbrev pub S : RattleType
  S = param 0 Z

  abbrev pub R : RattleType
  R = param 1 X

  -- a U is lent by a function that takes k numbers, the store ends with `written` of its last value, and `shown` is
  -- said of the result
  abbrev pub loan_of : (k : ℕ) (result : Slot 3) (U : RattleType) → ((κs : Lfts 3) → (result.row κs).Denot → GName)
      → ((κs : Lfts 3) → List X.Denot → Words 3 κs k → Type 0)
      → ((κs : Lfts 3) → List X.Denot → Words 3 κs k → U.Denot → List X.Denot)
      → ((κs : Lfts 3) → List X.Denot → Words 3 κs k → (result.row κs).Denot → Type 0) → Loan
  loan_of k result U name asks written shown = record {
    more = 2;
    outlives = (callee.signature Z X).outlives;
    lent = plain (λ _. S);
    result = result;
    numbers = k;
    asks = λ κs store ns. (κs.1.0 ⊑ Z.lives) ∷ (κs.1.1.0 ⊑ X.lives) ∷ asks κs (g.items store) ns ∷ [];
    ties = λ κs x ns r. follows S U x.ghost_name (name κs r)
        (λ w. (g.store_with x.now (written κs (g.items x.now) ns w)).0);
    gives = λ κs store ns r. shown κs (g.items store) ns r;
  }

  module _ {M : Type 1} {𝓤 : Ura M} (𝓛 : Logic 𝓤) (at_mem : Memory → SProp 𝓤) (run : Routine → Fun 𝓤) where
    open 𝓛 use {H}

    abbrev pub Called : Contract 𝓤
    Called = triple_of 𝓛 (callee.signature Z X) (callee.spec Z X g d dd 𝓛 at_mem run)

    module _ (κs : Lfts 3) (qs : Shares 3) (bounds : AllOutlive 3 (callee.signature Z X).outlives κs)
        (x : MutBor S.Denot) where
      abbrev pub choice : Called.Ghost
      choice = ((κs, qs, bounds, (x, tt), (mut_vals x, tt)), tt)

      -- the store, as it was passed
      abbrev pub Passed : Fml
      Passed = (MutRef (named 0) κs.0 S).own_val x (mut_vals x)

      -- the slice s, as the value v
      abbrev pub Told : Val → MutBor (List X.Denot) → Type 0
      Told v s = (v ≡ slice_val s.ref_ptr (length s.now)) × Room R (length s.now) × (s.now ≡ g.items x.now)

      -- its last value as it is seen from here, its borrow, and that the store follows it
      abbrev pub seen : MutBor (List X.Denot) → Item 𝓤
      seen s = ‵ (fobs s.ghost_name ((coded_list X.coded).code (heres R s.now)))

      abbrev pub borrow : MutBor (List X.Denot) → Item 𝓤
      borrow s = ‵ (fbor κs.0 (Body (Arr (Holey (mem R)) (length s.now)) s.ref_ptr.0 s.ref_ptr.1 s.ghost_name))

      -- the store with these items over its own
      abbrev pub after : List X.Denot → S.Denot
      after written = (g.store_with x.now written).0

      abbrev pub tied : MutBor (List X.Denot) → Fml
      tied s = follows S (Array R 0) x.ghost_name s.ghost_name after

      module _ {K : Type 0} {Γ : List (Item 𝓤)} {E : Env 𝓤 H} {C : Calls 𝓤 H} {Λ : Loops 𝓤 H} {f : Callee}
          {xs : List Operand} {p : Place} {rest : Code} {q : Post 𝓤 H} where
        pub calls_slice : K → FmC 𝓤 H 𝓛.laws C → Triple 𝓤 (C f) Called → κs.1.0 ⊑ Z.lives → κs.1.1.0 ⊑ X.lives
            → Opds K 𝓛 (raw (Called.pre choice) ∷ Γ) E xs (Called.args choice)
            → ((v : Val) (s : MutBor (List X.Denot)) → Told v s
            → Seq K 𝓛 (seen s ∷ borrow s ∷ ‵ (flft κs.0 qs.0) ∷ ‵ (tied s) ∷ raw (toks 𝓛 2 κs.1 qs.1) ∷ Γ)
            (lands C Λ E p v rest q)) → Seq K 𝓛 (‵ Passed ∷ ‵ (flft κs.0 qs.0) ∷ raw (toks 𝓛 2 κs.1 qs.1) ∷ Γ)
            (runs C Λ E (seq (call f xs p) rest) q)
        calls_slice t framed met long longer operands then =
            nothing t $ move t (1 ∷ 0 ∷ []) $ fjoin t $ move t (1 ∷ 2 ∷ []) $ join t $ join t $
            nothing t $ use0 𝓛 (raw (fact 𝓤 (κs.1.1.0 ⊑ X.lives))) (fact_i 𝓤 _ (emp 𝓤) longer) $ join t $
            use0 𝓛 (raw (fact 𝓤 (κs.1.0 ⊑ Z.lives))) (fact_i 𝓤 _ (emp 𝓤) long) $ join t $
            move t (1 ∷ 0 ∷ []) $ join t $ use1 𝓛 (raw (Called.pre choice)) (id⊢ 𝓤 _) $
            calls_at t framed Called met choice operands (λ v.
            use1 𝓛 (later (some (λ (s : MutBor (List X.Denot)).
            ((‵ (flft κs.0 qs.0) ⊛ raw (toks 𝓛 2 κs.1 qs.1)) ⊛ ‵ ((MutSlice (named 0) κs.0 R).own_val s (v ∷ []))) ⊛
            some (λ (ws : Unit {0} × Unit {0}). ‵ (fsep ftrue ftrue) ⊛ ‵ (tied s) ⊛ raw
            (fact 𝓤 (s.now ≡ g.items x.now)))))) (id⊢ 𝓤 _) $
            await t tt $ pick t (λ s. split t $ split t $ move t (2 ∷ []) $ pick t
            (λ ws. split3 t $ drop t $ move t (1 ∷ []) $ heard t _ (λ same.
            -- [what follows; the tokens; the slice]
            move t (1 ∷ []) $ split t $ move t (3 ∷ []) $ fsplit3 t $ fsplit t $ feq_l t
            (λ e. pure_l t (room R (length s.now)) (λ fits.
            move t (0 ∷ 1 ∷ 2 ∷ 4 ∷ []) $ then v s (ap only e, fits, same)))))))
