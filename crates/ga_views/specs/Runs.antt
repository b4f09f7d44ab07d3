-- Runs of closures: which calls are made, in which order, and what they return.
use Rattle.std.specs.List.{FoldsTo}
use Rattle.std.specs.Prelude.{◌≡◌, ◌⊎◌, List, [], ◌∷◌, Result, Ok, Err}

module _ {F X Y : Type 0} (step : F → X → Y → F → Type 0) where
  -- calls led from the state f to the state last, one at each input in order, and gave the results
  abbrev pub ClosureRun : F → List X → List Y → F → Type 0
  ClosureRun f [] [] last = f ≡ last
  ClosureRun f [] (y ∷ ys) last = ⊥
  ClosureRun f (x ∷ xs) [] last = ⊥
  ClosureRun f (x ∷ xs) (y ∷ ys) last = (next : F) × step f x y next × ClosureRun next xs ys last

module _ {F X Y E : Type 0} (step : F → X → Result Y E → F → Type 0) where
  -- Calls led from the state f to the state last, one at each input in order: all were good, and gave the results, or
  -- the first error came, and no call was made after it.
  abbrev pub TryClosureRun : F → List X → Result (List Y) E → F → Type 0
  TryClosureRun f [] (Ok []) last = f ≡ last
  TryClosureRun f [] (Ok (y ∷ ys)) last = ⊥
  TryClosureRun f [] (Err error) last = ⊥
  TryClosureRun f (x ∷ xs) (Ok []) last = ⊥
  TryClosureRun f (x ∷ xs) (Ok (y ∷ ys)) last = (next : F) × step f x (Ok y) next × TryClosureRun next xs (Ok ys) last
  TryClosureRun f (x ∷ xs) (Err error) last = step f x (Err error) last
      ⊎ ((y : Y) × (next : F) × step f x (Ok y) next × TryClosureRun next xs (Err error) last)

-- `TryClosureRun` as a record, from which a proof finds the step
pub record TryClosureRan {F X Y E : Type 0} (step : F → X → Result Y E → F → Type 0) (f : F) (xs : List X)
    (answer : Result (List Y) E) (last : F) : Type 0 where
  pub run : TryClosureRun step f xs answer last

module _ {F A X : Type 0} (step : F → A → X → A → F → Type 0) where
  -- calls led from the state f to the state last, one at each item in order, each with what the one before returned,
  -- from init to the result
  abbrev pub FoldRun : F → A → List X → A → F → Type 0
  FoldRun f init items answer last = FoldsTo {P = F × A}
      (λ before item after. step before.0 before.1 item after.1 after.0) (f, init) items (last, answer)

module _ {F A X E : Type 0} (step : F → A → X → Result A E → F → Type 0) where
  -- a step that is no error
  abbrev pub good_step : F → A → X → A → F → Type 0
  good_step f a x b g = step f a x (Ok b) g

  -- Calls led from the state f to the state last, one at each item in order, each with what the one before returned:
  -- all were good, and led from a to the result, or the first error came, and no call was made after it.
  abbrev pub TryFoldRun : F → A → List X → Result A E → F → Type 0
  TryFoldRun f a [] (Ok b) last = (a ≡ b) × (f ≡ last)
  TryFoldRun f a [] (Err error) last = ⊥
  TryFoldRun f a (x ∷ xs) (Ok b) last = (c : A) × (g : F) × step f a x (Ok c) g × TryFoldRun g c xs (Ok b) last
  TryFoldRun f a (x ∷ xs) (Err error) last = step f a x (Err error) last
      ⊎ ((c : A) × (g : F) × step f a x (Ok c) g × TryFoldRun g c xs (Err error) last)
