-- The result of a fallible fill to which memory may be refused too.
use Rattle.ga_core.specs.declared.FillError.{FillError}
use Rattle.ga_core.specs.declared.FillError.TheVariants.{Place, Length, Item}
use Rattle.ga_core.specs.declared.LengthError.{LengthError}
use Rattle.std.specs.Prelude.{Result, Ok, Err, ⊤}

module _ {A E P : Type 0} where
  -- A fact of what the fill came to, unless memory was refused. It sees the outcome as an inline fill returns it: the
  -- array, an item's error, or a wrong length.
  abbrev pub IfPlaced : Result A (FillError E P) → (Result (Result A E) LengthError → Type 0) → Type 0
  IfPlaced (Ok array) Fact = Fact (Ok (Ok array))
  IfPlaced (Err (Item error)) Fact = Fact (Ok (Err error))
  IfPlaced (Err (Length error)) Fact = Fact (Err error)
  IfPlaced (Err (Place refused)) Fact = ⊤

  -- memory wasn't refused
  abbrev pub IsPlaced : Result A (FillError E P) → Type 0
  IsPlaced (Err (Place refused)) = ⊥
  IsPlaced _ = ⊤
