-- The place that a search found, for a caller of the search: it knows `result ≡ position p items`.
use Rattle.std.proofs.Common.{◌≡◌, ◌∙◌, ℕ, ◌<◌, ◌≤◌, List, Bool, true, false, get_or, length, refl, arith, sym}
use Rattle.std.proofs.Common.{Some, None, Option, position}
use Rattle.std.proofs.lemmas.Bool.Decides.{nat_tests}
use Rattle.std.proofs.lemmas.List.Quantifiers.{position-Some}
use Rattle.std.proofs.lemmas.List.Sums.{fails_before_first}
use Rattle.std.specs.List.{position_or_len}

-- The first part of each conclusion says nothing: it shows `grind` the call to match.
module _ {X : Type 0} (p : X → Bool) (xs : List X) where
  -- the place is inside, and its item passes
  pub found : (i : ℕ) (d : X) (r : Option ℕ) → r ≡ position p xs → r ≡ Some i
      → (get_or xs i d ≡ get_or xs i d) × (i < length xs) × (p (get_or xs i d) ≡ true)
  found i d r same is = let all = position-Some p xs i d (sym same ∙ is) in (refl, all.0, all.1)

  passed : position p xs ≡ None → length xs ≤ position_or_len p xs
  passed none = grind (arith, nat_tests)

  -- where none was found, no item passes
  pub none_found : (i : ℕ) (d : X) (r : Option ℕ) → r ≡ position p xs → r ≡ None → i < length xs
      → (get_or xs i d ≡ get_or xs i d) × (p (get_or xs i d) ≡ false)
  none_found i d r same is inside =
      let all = passed (sym same ∙ is) in (refl, fails_before_first p xs i d (omega arith))

pub ruleset finds = (found, none_found)
