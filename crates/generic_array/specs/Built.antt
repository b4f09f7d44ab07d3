-- What was built, or why nothing was.
use Rattle.std.specs.Prelude.{List, Result, Ok, Err}

-- the items of what was built, or the error
abbrev pub built_items : {M T E : Type 0} → (M → List T) → Result M E → Result (List T) E
built_items items (Ok made) = Ok (items made)
built_items items (Err error) = Err error
