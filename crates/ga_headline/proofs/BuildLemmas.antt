-- Builds of good values.
use Rattle.ga_core.specs.declared.FillError.{FillError}
use Rattle.generic_array.proofs.FillLemmas.{all_good}
use Rattle.generic_array.specs.Tries.{try_map}
use Rattle.std.proofs.Common.{◌≡◌, ◌∙◌, List, Result, Ok, Err, map, sym}
use Rattle.std.specs.Prelude.{IfOk}

module _ {M T E P : Type 0} (items : M → List T) where
  -- what was built of good values has these values
  pub built-of_good : (result : Result M (FillError E P)) (whole : List T)
      → IfOk result (λ made. try_map (λ (item : Result T E). item) (map Ok whole) ≡ Ok (items made))
      → IfOk result (λ made. items made ≡ whole)
  built-of_good (Ok made) whole same = let both : Ok whole ≡ Ok (items made) = sym (all_good whole) ∙ same in cc
  built-of_good (Err error) whole same = tt
