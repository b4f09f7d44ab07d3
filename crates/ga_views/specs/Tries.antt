-- Functions that may fail, along a list.
use Rattle.std.specs.Prelude.{List, [], ◌∷◌, Result, Ok, Err}

-- what f makes of the value, or the error
abbrev pub result_and_then : {X Y E : Type 0} → (X → Result Y E) → Result X E → Result Y E
result_and_then f (Ok x) = f x
result_and_then f (Err error) = Err error

module _ {X Y E : Type 0} (h : X → Result Y E) where
  -- all results of h, which are good, or its first error
  abbrev pub try_map : List X → Result (List Y) E
  try_map [] = Ok []
  try_map (x ∷ xs) = result_and_then (λ y. result_and_then (λ ys. Ok (y ∷ ys)) (try_map xs)) (h x)

module _ {A X E : Type 0} (h : A → X → Result A E) where
  -- the last value of h folded along the items from a, or its first error
  abbrev pub try_fold : A → List X → Result A E
  try_fold a [] = Ok a
  try_fold a (x ∷ xs) = result_and_then (λ b. try_fold b xs) (h a x)
