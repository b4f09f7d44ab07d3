-- What is built of arrays that contracts see as their items, and what a fill with no memory to ask for comes to.
use Rattle.ga_boxed.specs.Placed.{IfPlaced}
use Rattle.ga_core.specs.declared.FillError.{FillError}
use Rattle.ga_core.specs.declared.FillError.TheVariants.{Item, Length, Place}
use Rattle.ga_core.specs.declared.LengthError.{LengthError}
use Rattle.generic_array.specs.Built.{built_items}
use Rattle.std.proofs.Common.{Err, List, Ok, Result, refl, subst, sym, ◌≡◌}
use Rattle.std.specs.Prelude.{IfOk, OnErr}

-- where an array is its items, what is built is its items too
pub built_items-same : {T E : Type 0} (built : Result (List T) E) → built_items {T = T} (λ array. array) built ≡ built
built_items-same (Ok made) = refl
built_items-same (Err error) = refl

module _ {A E P : Type 0} where
  -- what holds of the answer of a fill holds of the result that says the same
  pub placed-from : (result : Result A (FillError E P)) (answer : Result (Result A E) LengthError)
      (Fact : Result (Result A E) LengthError → Type 0) → IfPlaced result (λ built. built ≡ answer) → Fact answer
      → IfPlaced result Fact
  placed-from (Ok array) answer Fact same fact = subst Fact (sym same) fact
  placed-from (Err (Item error)) answer Fact same fact = subst Fact (sym same) fact
  placed-from (Err (Length error)) answer Fact same fact = subst Fact (sym same) fact
  placed-from (Err (Place refused)) answer Fact same fact = tt

  -- and so does what holds after an item's error
  pub item-placed : {Then : Type 0} (result : Result A (FillError E P)) (answer : Result (Result A E) LengthError)
      (error : E) → result ≡ Err (Item error) → IfPlaced result (λ built. built ≡ answer)
      → IfOk answer (λ made. OnErr made Then) → Then
  item-placed {Then} result answer error is same then =
      let failed = subst (λ (r : Result A (FillError E P)). IfPlaced r (λ built. built ≡ answer)) is same in
      subst (λ (a : Result (Result A E) LengthError). IfOk a (λ made. OnErr made Then)) (sym failed) then
