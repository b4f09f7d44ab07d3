-- The call that gives a length, `N::USIZE()`, as a step of a walk. Assumes `Logic`.
use Rattle.ga_views.proofs.walks.Names
use Names.{ap, call, Callee, Calls, Code, Dict, Env, fact, flft, FmC, ftrue, Fun, heard, id⊢, Is, Item, lands, Lft}
use Names.{List, Logic, Loops, Memory, move, no_more, nothing, only, peeks, Place, Post, RattleType, raw, refl, regoal}
use Names.{rewrite, Routine, runs, Seq, seq, Share, shows, SProp, Triple, Ura, usize, Val, vint, w64, [], ‵, ℕ, ◌$◌}
use Names.{◌<◌, ◌^◌, ◌∷◌, ◌≡◌, ◌⊑◌, ◌⊛◌}
use Rattle.ga_views.proofs.walks.CallStep.{asked, Called, calls}
use Rattle.ga_views.specs.contracts.length.Unsigned.USIZE as length_of
use Rattle.ga_views.specs.declared.length.Unsigned as unsigned

module _ (N : RattleType) (g : unsigned.Ghosts N.Denot) (d : Dict) {M : Type 1} {𝓤 : Ura M} (𝓛 : Logic 𝓤)
    (at_mem : Memory → SProp 𝓤) (run : Routine → Fun 𝓤) where
  open 𝓛 use {H}

  -- the token of N's lifetime
  abbrev pub token : Lft → Share → Item 𝓤
  token κ q = ‵ (flft κ q) ⊛ ‵ ftrue

  module _ {K : Type 0} {Γ : List (Item 𝓤)} {E : Env 𝓤 H} {C : Calls 𝓤 H} {Λ : Loops 𝓤 H} {f : Callee} {p : Place}
      {rest : Code} {q : Post 𝓤 H} where
    pub calls_length : K → FmC 𝓤 H 𝓛.laws C → Triple 𝓤 (C f)
        (Called 𝓛 (length_of.ended N g d) (length_of.clauses N g d 𝓛 at_mem run)) → (κ : Lft) (share : Share) → κ ⊑ N.lives
        → ((m : ℕ) → m ≡ g.USIZE → m < 2 ^ 64 → Seq K 𝓛 (‵ (usize.own_val m (vint w64 m ∷ [])) ∷ token κ share ∷ Γ)
        (lands C Λ E p (vint w64 m) rest q))
        → Seq K 𝓛 (token κ share ∷ Γ) (runs C Λ E (seq (call f [] p) rest) q)
    calls_length t framed met κ share lives then =
        nothing t $ move t (1 ∷ 0 ∷ []) $
        calls 𝓛 (length_of.ended N g d) (length_of.clauses N g d 𝓛 at_mem run) (κ, tt) (share, tt) tt tt tt tt
        (λ m. raw (fact 𝓤 (m ≡ g.USIZE))) t framed met (asked 𝓛 lives (id⊢ 𝓤 _)) (id⊢ 𝓤 _) (λ v. id⊢ 𝓤 _) (no_more t) (λ v m.
        move t (1 ∷ []) $ heard t _ (λ is_length.
        peeks t usize (Is usize) (shows 𝓛 usize) m (v ∷ []) (λ word.
        rewrite t 0 (λ (vs : List Val). ‵ (usize.own_val m vs)) word.0 refl $
        regoal t (λ (u : Val). lands C Λ E p u rest q) (ap only word.0) refl $ then m is_length word.1)))
