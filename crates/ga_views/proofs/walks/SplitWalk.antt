-- The call that cuts a slice for writing in two, `split_at_mut`, as a step of a walk: the slice, the place and the
-- tokens go in, and the two parts come out with what is known of them. Assumes `Logic`.
use Rattle.ga_views.proofs.walks.Names
use Names.{ap, Array, call, Callee, Calls, Code, Contract, drop, drop_list, emp, Env, fact, fact_i, feq_l, fjoin, flft}
use Names.{FmC, Fml, follows_both, fpick, fsplit, ftrue, Fun, group, heard, id⊢, Is, Item, lands, length, Lft, List}
use Names.{Logic, Loops, Memory, move, mut_slice_vals, MutBor, MutSlice, named, nothing, of_list, only, Opds, Operand}
use Names.{param, peeks, Place, Post, RattleType, raw, refl, regoal, rewrite, Routine, runs, Seq, seq, Share, shows}
use Names.{slice_val, split, SProp, take, Triple, Ura, usize, Val, vint, vstruct, w64, [], ‵, ℕ, ◌$◌, ◌++◌, ◌+◌, ◌<◌}
use Names.{◌^◌, ◌∙◌, ◌∷◌, ◌≡◌, ◌≤◌, ◌⊑◌, ◌⊛◌}
use Rattle.ga_views.proofs.walks.CallStep.{asked, Called, called_at, calls}
use Rattle.std.below.core.specs.contracts.slice.slice+T.split_at_mut as cut_contract
use Rattle.std.specs.List.{SameBelow, TailFrom}

module _ (X : RattleType) where
  abbrev E : RattleType
  E = param 0 X

  abbrev Items : Type 0
  Items = MutBor (List E.Denot)

  -- what the slice ends as: the items of the one part and then those of the other
  abbrev pub joins : Items → Items → Items → Fml
  joins s first second = follows_both (Array E 0) (Array E 0)
      (Array E 0) s.ghost_name first.ghost_name second.ghost_name ◌++◌

  -- the two parts, as the machine has them
  abbrev pub parts_val : Items → Items → Val
  parts_val first second =
      vstruct (of_list (slice_val first.ref_ptr (length first.now) ∷ slice_val second.ref_ptr (length second.now) ∷ []))

  -- what is known of the two parts of a slice that is cut at a place
  pub record TwoParts (s : Items) (place : ℕ) (first second : Items) : Type 0 where
    pub whole : s.now ≡ first.now ++ second.now
    pub first_len : length first.now ≡ place
    pub second_len : length second.now + place ≡ length s.now
    pub first_is : first.now ≡ take place s.now
    pub second_is : second.now ≡ drop_list place s.now
    pub first_fits : length first.now < 2 ^ 64
    pub second_fits : length second.now < 2 ^ 64

  module _ {M : Type 1} {𝓤 : Ura M} (𝓛 : Logic 𝓤) (at_mem : Memory → SProp 𝓤) (run : Routine → Fun 𝓤) where
    open 𝓛 use {H}

    abbrev pub Cuts : Contract 𝓤
    Cuts = Called 𝓛 (cut_contract.ended X) (cut_contract.clauses X 𝓛 at_mem run)

    module _ (κ κT : Lft) (q qT : Share) (within : κ ⊑ κT) (s : Items) (place : ℕ) where
      -- the slice is lent for κ, and κT is the lifetime of its items' type
      abbrev S : RattleType
      S = MutSlice (named 0) κ E

      abbrev pub cut_at : Cuts.Ghost
      cut_at = called_at 𝓛 (cut_contract.ended X) (cut_contract.clauses X 𝓛 at_mem run) (κ, (κT, tt)) (q, (qT, tt))
          (within, tt) (s, (place, tt)) (mut_slice_vals s, (vint w64 place ∷ [], tt)) tt

      module _ {K : Type 0} {Γ : List (Item 𝓤)} {G : Env 𝓤 H} {C : Calls 𝓤 H} {Λ : Loops 𝓤 H} {f : Callee}
          {xs : List Operand} {p : Place} {rest : Code} {post : Post 𝓤 H} where
        -- the call takes the slice, the place and the two tokens; it gives both parts, what the slice ends as, and
        -- the tokens
        pub cuts : K → FmC 𝓤 H 𝓛.laws C → Triple 𝓤 (C f) Cuts → κT ⊑ X.lives → place ≤ length s.now
            → Opds K 𝓛 (raw (Cuts.pre cut_at) ∷ Γ) G xs (Cuts.args cut_at)
            → ((first second : Items) → TwoParts s place first second
            → Seq K 𝓛 (‵ (S.own_val second (mut_slice_vals second)) ∷ ‵ (S.own_val first (mut_slice_vals first))
            ∷ ‵ (joins s first second) ∷ (‵ (flft κ q) ⊛ ‵ (flft κT qT) ⊛ ‵ ftrue) ∷ Γ)
            (lands C Λ G p (parts_val first second) rest post))
            → Seq K 𝓛 (‵ (S.own_val s (mut_slice_vals s)) ∷ ‵ (usize.own_val place (vint w64 place ∷ [])) ∷ ‵ (flft κ q)
            ∷ ‵ (flft κT qT) ∷ Γ) (runs C Λ G (seq (call f xs p) rest) post)
        cuts t framed met lives inside read then =
            nothing t $ move t (2 ∷ 0 ∷ []) $ fjoin t $ move t (1 ∷ 0 ∷ []) $ fjoin t $
            nothing t $ move t (2 ∷ 3 ∷ 0 ∷ 1 ∷ []) $ group t 3 $
            calls 𝓛 (cut_contract.ended X) (cut_contract.clauses X 𝓛 at_mem run) (κ, (κT, tt)) (q, (qT, tt))
            (within, tt) (s, (place, tt)) (mut_slice_vals s, (vint w64 place ∷ [], tt)) tt
            (λ r. raw (fact 𝓤 (s.now ≡ r.0.now ++ r.1.now)) ⊛ raw (fact 𝓤 (length r.0.now ≡ place)) ⊛ raw
            (fact 𝓤 (length r.1.now + place ≡ length s.now)) ⊛
            raw (fact 𝓤 (r.0.now ≡ take place s.now)) ⊛ raw (fact 𝓤 (r.1.now ≡ drop_list place s.now)) ⊛ raw
            (fact 𝓤 (SameBelow s.now r.0.now place × TailFrom s.now r.1.now place)) ⊛
            ‵ (joins s r.0 r.1)) t framed met (asked 𝓛 lives (fact_i 𝓤 _ (emp 𝓤) inside)) (id⊢ 𝓤 _) (λ u. id⊢ 𝓤 _)
            read (λ u r. move t (1 ∷ []) $
            split t $ heard t _ (λ whole. split t $ heard t _ (λ first_len. split t $ heard t _ (λ second_len.
            split t $ heard t _ (λ first_is. split t $ heard t _ (λ second_is. split t $ drop t $
            -- [what the slice ends as; the pair; the tokens]
            move t (1 ∷ []) $ fpick t (λ vss. fsplit t $
            move t (1 ∷ []) $ fsplit t $ peeks t S (Is S) (shows 𝓛 S) r.0 vss.0
            (λ is₁. rewrite t 0 (λ (vs : List Val). ‵ (S.own_val r.0 vs)) is₁.0.0 refl $
            move t (1 ∷ []) $ fsplit t $ peeks t S (Is S) (shows 𝓛 S) r.1 vss.1.0
            (λ is₂. rewrite t 0 (λ (vs : List Val). ‵ (S.own_val r.1 vs)) is₂.0.0 refl $
            move t (3 ∷ []) $ feq_l t (λ pair. move t (1 ∷ []) $ drop t $
            regoal t (λ (v : Val). lands C Λ G p v rest post)
            (ap only (pair ∙ (λ i. vstruct (of_list (is₁.0.0 i ++ (is₂.0.0 i ++ []))) ∷ []))) refl $
            then r.0 r.1 (record {
              whole = whole;
              first_len = first_len;
              second_len = second_len;
              first_is =
                  first_is;
              second_is = second_is;
              first_fits = is₁.0.1.0;
              second_fits = is₂.0.1.0;
            })))))))))))
