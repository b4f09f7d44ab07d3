-- A call of a function as a step of its caller's walk. Assumes `Logic`.
use Rattle.ga_views.proofs.walks.Names
use Names.{AllOutlive, await, call, Callee, Calls, calls_at, Clauses, closing, Code, Contract, done, drop, emp, Ended}
use Names.{ent, Env, fact, fact_i, FmC, Fml, Item, join, lands, lasts, Lasts, later, Lfts, List, Logic, Loops, mean}
use Names.{move, Opds, Operand, pick, Place, Post, qed, RattleType, raw, runs, sem, sep, Seq, seq, Shares, some, split}
use Names.{SProp, Triple, triple_of, type_at, Ura, use0, use1, Val, Vals, !, [], ‵, ◌$◌, ◌∵◌, ◌∷◌, ◌⊛◌}
use denote.Triple.Entry.{Args}

-- what a call asks, fact by fact, before what else it asks
module _ {M : Type 1} {𝓤 : Ura M} (𝓛 : Logic 𝓤) where
  pub asked : {φ : Type 0} {P : SProp 𝓤} → φ → ent 𝓤 (emp 𝓤) P → ent 𝓤 (emp 𝓤) (sep 𝓤 (fact 𝓤 φ) P)
  asked {φ} {P} holds others = qed 𝓛 [] ∵ use0 𝓛 (raw P) others $ use0 𝓛 (raw (fact 𝓤 φ)) (fact_i 𝓤 _ (emp 𝓤) holds) $
      join ! $ done !

-- a call at a function's clauses, of the lifetimes, the tokens' shares, the arguments and their machine values, as a
-- step of its caller's walk: it takes the tokens and what the arguments own, gives the tokens back, and the result with
-- what is promised of it
module _ {M : Type 1} {𝓤 : Ura M} (𝓛 : Logic 𝓤) (T : Ended) (c : Clauses 𝓤 T) where
  open 𝓛 use {H}

  abbrev pub Called : Contract 𝓤
  Called = triple_of 𝓛 T.signature (closing 𝓛 T c)

  module _ (κs : Lfts T.signature.lifetimes) (qs : Shares T.signature.lifetimes)
      (bounds : AllOutlive T.signature.lifetimes T.signature.outlives κs) (a : Args T.signature κs)
      (vss : Vals T.signature κs) (g : (c κs a).ghost) where
    abbrev pub called_at : Called.Ghost
    called_at = ((κs, qs, bounds, a, vss), g)

    abbrev Result : RattleType
    Result = type_at T.signature.result κs

    -- what the call gives where it returned v, with the tokens A
    abbrev given : (Result.Denot → Item 𝓤) → Item 𝓤 → Val → Item 𝓤
    given promised A v = later (some (λ (x : Result.Denot). (A ⊛ ‵ (Result.own_val x (v ∷ [])))
        ⊛ some (λ (w : Lasts T κs a). ‵ (lasts T κs a w) ⊛ promised x)))

    module _ (promised : Result.Denot → Item 𝓤) {K : Type 0} {A : Item 𝓤} {O : Fml} {P : SProp 𝓤} {Γ : List (Item 𝓤)}
        {G : Env 𝓤 H} {C : Calls 𝓤 H} {Λ : Loops 𝓤 H} {f : Callee} {xs : List Operand} {p : Place} {rest : Code}
        {post : Post 𝓤 H} where
      pub calls : K → FmC 𝓤 H 𝓛.laws C → Triple 𝓤 (C f) Called → ent 𝓤 (emp 𝓤) P
          → ent 𝓤 (sep 𝓤 (sep 𝓤 (mean 𝓛 A) (sem 𝓛 O)) P) (Called.pre called_at)
          → ((v : Val) → ent 𝓤 (Called.post called_at v) (mean 𝓛 (given promised A v)))
          → Opds K 𝓛 (raw (Called.pre called_at) ∷ Γ) G xs (Called.args called_at)
          → ((v : Val) (x : Result.Denot)
          → Seq K 𝓛 (‵ (Result.own_val x (v ∷ [])) ∷ promised x ∷ A ∷ Γ) (lands C Λ G p v rest post))
          → Seq K 𝓛 (A ∷ ‵ O ∷ Γ) (runs C Λ G (seq (call f xs p) rest) post)
      calls t framed met asks enters gives read then =
          join t $ use0 𝓛 (raw P) asks $ move t (1 ∷ 0 ∷ []) $ join t $ use1 𝓛 (raw (Called.pre called_at)) enters $
          calls_at t framed Called met called_at read (λ v. use1 𝓛 (given promised A v) (gives v) $
          await t tt $ pick t (λ x. split t $ split t $ move t (2 ∷ []) $ pick t
          (λ w. split t $ drop t $ move t (2 ∷ 0 ∷ 1 ∷ []) $ then v x)))
