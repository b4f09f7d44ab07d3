-- A walk of a function that takes a `&mut`, which it lends on for all of its lifetime, and then numbers: a call whose
-- first parameter is used up (`CallWalk`), all of it but what it asks, what it gives and its own steps. Assumes `Logic`.
--     Loan           what such a function takes, asks and gives
--     Had, Left      what a walk has at its start, and at its end
--     lends          the function's contract, from its walk
use Rattle.ga_views.proofs.walks.CallWalk.{Args, Behind, Call, Fines, Had as Had_by_call, Lasts, Words as Besides}
use Rattle.ga_views.proofs.walks.CallWalk.{clauses, ended, flat_of, meets, number}
use Rattle.ga_views.proofs.walks.ClauseFacts.{AllFacts, has_every}
use Rattle.ga_views.proofs.walks.Names
use Names.{AllOutlive, by, Callee, Calls, Closed, closing, ent, fact, flft, Fml, Fn, Goes-spent_ref, id⊢, Item, join}
use Names.{keep, Lfts, List, Logic, Loops, Meets, Model, move, mut_ref_to, mut_Tells, mut_vals, MutBor, MutRef, named}
use Names.{no, nothing, Outlives, qed, raw, Running, sem, sep, Shares, Slot, split, SProp, stay_dropped, suc, tables}
use Names.{toks, Ura, use1, Val, vptr, WpFn, yes, zero, !, [], ‵, ℕ, ⋆, ◌$◌, ◌∵◌, ◌∷◌, ◌⊛◌}

abbrev pub words : {L : ℕ} → ℕ → List (Behind L)
words zero = []
words (suc n) = number yes ∷ words n

-- nothing is left of them
lasting : (L : ℕ) (κs : Lfts L) (n : ℕ) (ns : Args κs (words n)) → Lasts κs (words n) ns
lasting L κs zero ns = tt
lasting L κs (suc n) ns = (tt, lasting L κs n ns.1)

abbrev pub Words : (L : ℕ) → Lfts L → ℕ → Type 0
Words L κs n = Args κs (words n)

-- such a function: it takes a `&mut` to a `lent`, at the first lifetime of `more` and one, and then numbers. `asks` are
-- the facts that it asks for, those on the lifetimes first; `gives` is the fact on its result, and `ties` says what the
-- `lent` ends as
pub record Loan : Type 2 where
  pub more : ℕ
  pub outlives : List (Outlives (suc more))
  pub lent : Slot (suc more)
  pub result : Slot (suc more)
  pub numbers : ℕ
  pub asks : (κs : Lfts (suc more)) → (lent.row κs).Denot → Words (suc more) κs numbers → List (Type 0)
  pub ties : (κs : Lfts (suc more)) → MutBor (lent.row κs).Denot → Words (suc more) κs numbers → (result.row κs).Denot
      → Fml
  pub gives : (κs : Lfts (suc more)) → (lent.row κs).Denot → Words (suc more) κs numbers → (result.row κs).Denot
      → Type 0

module _ (T : Loan) where
  abbrev pub lifetimes : ℕ
  lifetimes = suc T.more

  abbrev pub call : Call lifetimes
  call = record {
    outlives = T.outlives;
    me = record {
      slot = mut_ref_to (0 ∷ []) tt T.lent;
      kept = no;
      stay = stay_dropped (mut_ref_to (0 ∷ []) tt T.lent) no;
      vals = λ _. mut_vals;
      tells = λ κs. mut_Tells (named 0) κs.0 (T.lent.row κs);
      ends = λ 𝓛. Goes-spent_ref 𝓛 lifetimes (0 ∷ []) tt T.lent;
    };
    behind = words T.numbers;
    out = T.result;
    asks = λ κs x ns. T.asks κs x.now ns;
    gives = λ M 𝓤 𝓛 κs x ns r w. sep 𝓤 (sem 𝓛 (T.ties κs x ns r)) (fact 𝓤 (T.gives κs x.now ns r));
  }

  module _ {M : Type 1} {𝓤 : Ura M} (𝓛 : Logic 𝓤) where
    open 𝓛 use {H}

    module _ (κs : Lfts lifetimes) (qs : Shares lifetimes) (x : MutBor (T.lent.row κs).Denot)
        (ns : Words lifetimes κs T.numbers) where
      -- the reference, the token of its lifetime, and the others
      abbrev pub Had : List (Item 𝓤)
      Had = ‵ ((MutRef (named 0) κs.0 (T.lent.row κs)).own_val x (mut_vals x)) ∷ ‵ (flft κs.0 qs.0)
          ∷ raw (toks 𝓛 T.more κs.1 qs.1) ∷ []

      -- the result, the token, what the reference ends as, and the other tokens
      abbrev pub Left : (T.result.row κs).Denot → Val → List (Item 𝓤)
      Left r v = ‵ ((T.result.row κs).own_val r (v ∷ [])) ∷ ‵ (flft κs.0 qs.0) ∷ ‵ (T.ties κs x ns r)
          ∷ raw (toks 𝓛 T.more κs.1 qs.1) ∷ []

    -- a walk is given what is asked, and how it ends
    abbrev pub Walk : Calls 𝓤 H → Loops 𝓤 H → Fn → Type 2
    Walk C Λ e = (κs : Lfts lifetimes) (qs : Shares lifetimes) (bounds : AllOutlive lifetimes T.outlives κs)
        (x : MutBor (T.lent.row κs).Denot) (ns : Words lifetimes κs T.numbers) (w : Besides (words T.numbers))
        (Post : Val → SProp 𝓤) → AllFacts (T.asks κs x.now ns) → Fines κs (words T.numbers) ns w
        → ((v : Val) (r : (T.result.row κs).Denot) → T.gives κs x.now ns r → ent 𝓤 (⋆ 𝓛 (Left κs qs x ns r v)) (Post v))
        → ent 𝓤 (⋆ 𝓛 (Had κs qs x ns)) (WpFn 𝓤 H C Λ e
        (vptr x.ref_ptr.0 x.ref_ptr.1 ∷ flat_of κs (words T.numbers) ns w) Post)

    pub lends : (𝓜 : Model 𝓤 H) (𝓡 : Running 𝓤 H 𝓜) (k : Callee) (e : Fn) → let 𝓣 = tables 𝓤 H 𝓜 𝓡 𝓡.env in
        Closed 𝓤 H 𝓣.C 𝓣.Λ k e → Walk 𝓣.C 𝓣.Λ e
        → Meets 𝓛 (ended call).signature (𝓣.C k) (closing 𝓛 (ended call) (clauses call 𝓛))
    lends 𝓜 𝓡 k e closed walk = meets call 𝓛 𝓜 𝓡 k e closed (λ κs qs bounds x ns w Post asked fine ends.
        qed 𝓛 (Had_by_call call 𝓛 κs qs x ns w) ∵ move ! (1 ∷ []) $
        use1 𝓛 (‵ (flft κs.0 qs.0) ⊛ raw (toks 𝓛 T.more κs.1 qs.1)) (id⊢ 𝓤 _) $ split ! $ keep ! (2 ∷ 0 ∷ 1 ∷ []) $ by !
        (walk κs qs bounds x ns w Post asked fine (λ v r given.
        qed 𝓛 (Left κs qs x ns r v) ∵ has_every ! (T.gives κs x.now ns r ∷ []) given $
        -- [the fact; the result; the token; what the reference ends as; the other tokens]
        move ! (3 ∷ 0 ∷ []) $ join ! $ move ! (2 ∷ 3 ∷ []) $ join ! $ nothing ! $ move ! (0 ∷ 1 ∷ 3 ∷ 2 ∷ []) $ by !
        (ends v r tt (lasting lifetimes κs T.numbers ns) tt))))
