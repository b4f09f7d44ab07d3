-- What a whole ends as, where a part of it is cut in two. Assumes `Logic`.
use Rattle.ga_views.proofs.walks.Names
use Names.{assume, by, each, ent, follows, follows_both, fres, GName, Logic, mem, move, qed, RattleType, sem, sep, Ura}
use Names.{use2, wand, !, [], ‵, ◌$◌, ◌∵◌, ◌∷◌, ◌⊛◌}
use denote.Follow.{both_by, followed}
use types.Follow.{followed₂}

-- R follows T, and T follows the two parts U and V
module _ {M : Type 1} {𝓤 : Ura M} (𝓛 : Logic 𝓤) (R T U V : RattleType) (F : T.Denot → R.Denot)
    (G : U.Denot → V.Denot → T.Denot) (γ γ' γ₁ γ₂ : GName) where
  open 𝓛 use {A}

  pub follows_both_then : ent 𝓤 (sep 𝓤 (sem 𝓛 (follows R T γ γ' F)) (sem 𝓛 (follows_both T U V γ' γ₁ γ₂ G)))
      (sem 𝓛 (follows_both R U V γ γ₁ γ₂ (λ x y. F (G x y))))
  unfolding both_by
  follows_both_then =
      qed 𝓛 (‵ (follows R T γ γ' F) ∷ ‵ (follows_both T U V γ' γ₁ γ₂ G) ∷ []) ∵
      each ! (λ (w : U.Denot × V.Denot). wand 𝓤 (sep 𝓤 (A.res γ₁ (U.coded.code w.0)) (A.res γ₂ (V.coded.code w.1)))
      (A.res γ (R.coded.code (F (G w.0 w.1))))) (λ w.
      assume ! (‵ (fres γ₁ (U.coded.code w.0)) ⊛ ‵ (fres γ₂ (V.coded.code w.1))) $
      -- [the last values of both parts; R follows; T follows]
      move ! (0 ∷ 2 ∷ []) $ use2 𝓛 (‵ (fres γ' (T.coded.code (G w.0 w.1))))
      (followed₂ 𝓛 (mem T) (mem U) (mem V) G γ' γ₁ γ₂ w.0 w.1) $
      move ! (1 ∷ 0 ∷ []) $ by ! (followed 𝓛 R T F γ γ' (G w.0 w.1)))
