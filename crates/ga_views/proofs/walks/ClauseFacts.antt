-- The facts of a contract that states each in a clause of its own, as one tuple. `has_every` takes `Logic`; the rest
-- assumes nothing.
--     AllFacts          the tuple of the facts
--     facts          the facts as a contract has them
--     learns         P ∗ facts as a hypothesis: they are learned
--     has_every      they are shown, as an entry
use Rattle.ga_views.proofs.walks.Names.{List, [], ◌∷◌, Ura, SProp, ent, sep, emp, id⊢, via, fst∗, snd∗, Logic, Goal}
use Rattle.ga_views.proofs.walks.Names.{Item, raw, Step, step, use0, ◌$◌, fact, fact_i, fact_use}
use base.Logic.{emp∗, mono_l}

abbrev pub AllFacts : List (Type 0) → Type 0
AllFacts [] = Unit {0}
AllFacts (φ ∷ []) = φ
AllFacts (φ ∷ ψ ∷ φs) = φ × AllFacts (ψ ∷ φs)

module _ {M : Type 1} (𝓤 : Ura M) where
  abbrev pub facts : List (Type 0) → SProp 𝓤
  facts [] = emp 𝓤
  facts (φ ∷ []) = fact 𝓤 φ
  facts (φ ∷ ψ ∷ φs) = sep 𝓤 (fact 𝓤 φ) (facts (ψ ∷ φs))

  shown : (φs : List (Type 0)) → AllFacts φs → ent 𝓤 (emp 𝓤) (facts φs)
  shown [] x = id⊢ 𝓤 (emp 𝓤)
  shown (φ ∷ []) x = fact_i 𝓤 φ (emp 𝓤) x
  shown (φ ∷ ψ ∷ φs) x =
      let F : SProp 𝓤 = fact 𝓤 φ in let G : SProp 𝓤 = facts (ψ ∷ φs) in
      via 𝓤 G (shown (ψ ∷ φs) x.1) (via 𝓤 (sep 𝓤 (emp 𝓤) G) (emp∗ 𝓤 G) (mono_l 𝓤 G (fact_i 𝓤 φ (emp 𝓤) x.0)))

  learned : (φs : List (Type 0)) {P Q : SProp 𝓤} → ent 𝓤 P (facts φs) → (AllFacts φs → ent 𝓤 P Q) → ent 𝓤 P Q
  learned [] h k = k tt
  learned (φ ∷ []) h k = fact_use 𝓤 φ h k
  learned (φ ∷ ψ ∷ φs) h k =
      let F : SProp 𝓤 = fact 𝓤 φ in let G : SProp 𝓤 = facts (ψ ∷ φs) in
      fact_use 𝓤 φ (via 𝓤 (sep 𝓤 F G) h (fst∗ 𝓤 F G))
      (λ x. learned (ψ ∷ φs) (via 𝓤 (sep 𝓤 F G) h (snd∗ 𝓤 F G)) (λ xs. k (x, xs)))

  pub learns : (φs : List (Type 0)) (P : SProp 𝓤) {Q : SProp 𝓤} → (AllFacts φs → ent 𝓤 P Q) → ent 𝓤 (sep 𝓤 P (facts φs)) Q
  learns φs P h =
      let F : SProp 𝓤 = sep 𝓤 P (facts φs) in learned φs {P = F} (snd∗ 𝓤 P (facts φs))
      (λ x. via 𝓤 P (fst∗ 𝓤 P (facts φs)) (h x))

pub has_every : {M : Type 1} {𝓤 : Ura M} {𝓛 : Logic 𝓤} {K : Type 0} {Γ : List (Item 𝓤)} {G : Goal 𝓤 𝓛.H} → K
    → (φs : List (Type 0)) → AllFacts φs → Step K 𝓛 (raw (facts 𝓤 φs) ∷ Γ) G Γ G
has_every {𝓤 = 𝓤} {𝓛 = 𝓛} t φs x = step (λ s. use0 𝓛 (raw (facts 𝓤 φs)) (shown 𝓤 φs x) $ s)
