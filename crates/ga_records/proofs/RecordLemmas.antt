-- The greatest index of a record with a byte: along a walk from the back, and that it is the greatest.
use Rattle.ga_records.specs.Records.{IsLastWith, NoneHas, has, index_behind, last_record_with}
use Rattle.std.proofs.Common.{◌≡◌, ◌⊎◌, ℕ, suc, Bool, true, false, List, [], ◌∷◌, ◌++◌, Option, None, Some, inl, inr}
use Rattle.std.proofs.Common.{ap, length, refl, subst, sym, ◌∙◌}

module _ (byte : ℕ) where
  -- the last record has the byte
  pub last-found : (left : List (List ℕ)) (row : List ℕ) → has byte row ≡ true
      → last_record_with byte (left ++ row ∷ []) ≡ Some (length left)
  last-found [] row found = ap (λ b. index_behind b None) found
  last-found (first ∷ others) row found = ap (index_behind (has byte first)) (last-found others row found)

  -- the last record hasn't
  pub last-passed : (left : List (List ℕ)) (row : List ℕ) → has byte row ≡ false
      → last_record_with byte (left ++ row ∷ []) ≡ last_record_with byte left
  last-passed [] row missed = ap (λ b. index_behind b None) missed
  last-passed (first ∷ others) row missed = ap (index_behind (has byte first)) (last-passed others row missed)

  behind-none : (first : Bool) (others : Option ℕ) → index_behind first others ≡ None
      → (first ≡ false) × (others ≡ None)
  behind-none first (Some index) none = cc none
  behind-none true None none = cc none
  behind-none false None none = (refl, refl)

  behind-some : (first : Bool) (others : Option ℕ) (index : ℕ) → index_behind first others ≡ Some index
      → ((before : ℕ) × (others ≡ Some before) × (index ≡ suc before))
      ⊎ ((others ≡ None) × (first ≡ true) × (index ≡ 0))
  behind-some first (Some before) index some = inl (before, refl, cc some)
  behind-some true None index some = inr (refl, refl, cc some)
  behind-some false None index some = cc some

  -- `None` is answered where no record has it, and there alone
  pub none-has : (records : List (List ℕ)) → last_record_with byte records ≡ None → NoneHas byte records
  none-has [] none = tt
  none-has (first ∷ others) none = let parts = behind-none (has byte first) (last_record_with byte others) none in
      (parts.0, none-has others parts.1)

  pub has-none : (records : List (List ℕ)) → NoneHas byte records → last_record_with byte records ≡ None
  has-none [] none = refl
  has-none (first ∷ others) none = ap (index_behind (has byte first)) (has-none others none.1)
      ∙ ap (λ b. index_behind b None) none.0

  -- an index that is answered is that of the last
  pub is-last : (records : List (List ℕ)) (index : ℕ) → last_record_with byte records ≡ Some index
      → IsLastWith byte records index
  is-last [] index some = cc some
  is-last (first ∷ others) index some =
      elim (behind-some (has byte first) (last_record_with byte others) index some) [
        | inl later ↦ let last = is-last others later.0 later.1 in
            subst (λ i. IsLastWith byte (first ∷ others) i) (sym later.2) last
        | inr here ↦ subst (λ i. IsLastWith byte (first ∷ others) i) (sym here.2)
            ((first, refl, here.1), none-has others here.0)
      ]

  module _ (all left after : List (List ℕ)) (row : List ℕ)
      (so_far : last_record_with byte all ≡ last_record_with byte left) (step : left ≡ after ++ row ∷ []) where
    -- a walk from the back ends at a record that has the byte
    pub walk-found : (count : ℕ) → count ≡ length after → has byte row ≡ true → last_record_with byte all ≡ Some count
    walk-found count is found = so_far ∙ (ap (last_record_with byte) step
        ∙ (last-found after row found ∙ ap Some (sym is)))

    -- and goes on behind one that hasn't
    pub walk-passed : has byte row ≡ false → last_record_with byte all ≡ last_record_with byte after
    walk-passed missed = so_far ∙ (ap (last_record_with byte) step ∙ last-passed after row missed)
