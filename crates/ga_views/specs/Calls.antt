-- Where a closure may be called: at each number below n or each item of a list in turn, in each state that the calls
-- before lead to. Each word ends in a premise that a caller gets, `HoldsAsAtFirst`.
use Rattle.ga_views.specs.Entries.{CallAt, CallAtPair, FoldAt}
use Rattle.ga_views.specs.Runs.{ClosureRun, FoldRun, good_step}
use Rattle.std.specs.List.{range_with_len, zip}
use Rattle.std.specs.Prelude.{◌≡◌, ℕ, ◌<◌, List, ◌∷◌, ◌++◌, map, Result, Ok}

-- where no call changes the closure, what holds of its first state holds of the state reached
abbrev pub HoldsAsAtFirst : {F : Type 0} → (F → Type 0) → (F → Type 0) → F → F → Type 0
HoldsAsAtFirst Unchanged Holds f reached = Holds f → Unchanged f → Holds reached

module _ {F X Y : Type 0} (step : F → X → Y → F → Type 0) where
  -- a call of f leaves it as it is
  abbrev pub Stays : F → Type 0
  Stays f = (x : X) (y : Y) (g : F) → step f x y g → g ≡ f

module _ {F X B Y : Type 0} (step : F → X → B → Y → F → Type 0) where
  -- a call of f with two values leaves it as it is
  abbrev pub StaysOnTwo : F → Type 0
  StaysOnTwo f = (x : X) (b : B) (y : Y) (g : F) → step f x b y g → g ≡ f

module _ {F Y : Type 0} (pre : F → ℕ → Type 0) (step : F → ℕ → Y → F → Type 0) where
  -- f may be called at each number below n in turn
  abbrev pub MayGenerate : F → ℕ → Type 0
  MayGenerate f n = (k : ℕ) (ys : List Y) (reached : F)
      → k < n → ClosureRun step f (range_with_len 0 k) ys reached
      → HoldsAsAtFirst (Stays step) (λ g. pre g k) f reached → pre reached k

module _ {F Y E : Type 0} (pre : F → ℕ → Type 0) (step : F → ℕ → Result Y E → F → Type 0) where
  -- f may be called at each number below n in turn, as long as its calls are good
  abbrev pub MayTryGenerate : F → ℕ → Type 0
  MayTryGenerate f n = (k : ℕ) (good : List Y) (reached : F)
      → k < n → ClosureRun step f (range_with_len 0 k) (map Ok good) reached
      → HoldsAsAtFirst (Stays step) (λ g. pre g k) f reached → pre reached k

module _ {F I T : Type 0} (entry : I → T) (pre : F → I → Type 0) where
  -- f may be called at an entry of each item in turn
  abbrev pub MayMap : {Y : Type 0} → (F → I → Y → F → Type 0) → F → List T → Type 0
  MayMap {Y} step f items = (passed : List T) (item : T) (others : List T) (ys : List Y) (reached : F)
      → items ≡ passed ++ item ∷ others → ClosureRun (CallAt entry step) f passed ys reached
      → (at : I) → entry at ≡ item → HoldsAsAtFirst (Stays step) (λ g. pre g at) f reached → pre reached at

  -- f may be called at an entry of each item in turn, as long as its calls are good
  abbrev pub MayTryMap : {Y E : Type 0} → (F → I → Result Y E → F → Type 0) → F → List T → Type 0
  MayTryMap {Y} step f items = (passed : List T) (item : T) (others : List T) (good : List Y) (reached : F)
      → items ≡ passed ++ item ∷ others → ClosureRun (CallAt entry step) f passed (map Ok good) reached
      → (at : I) → entry at ≡ item → HoldsAsAtFirst (Stays step) (λ g. pre g at) f reached → pre reached at

module _ {F I J T B Y : Type 0} (entry : I → T) (other : J → B) (pre : F → I → J → Type 0)
    (step : F → I → J → Y → F → Type 0) where
  -- f may be called at entries of each two items at the same index in turn
  abbrev pub MayZip : F → List T → List B → Type 0
  MayZip f left right = (passed : List (T × B)) (pair : T × B) (others : List (T × B)) (ys : List Y) (reached : F)
      → zip left right ≡ passed ++ pair ∷ others → ClosureRun (CallAtPair entry other step) f passed ys reached
      → (at : I) (beside : J) → entry at ≡ pair.0 → other beside ≡ pair.1
      → HoldsAsAtFirst (StaysOnTwo step) (λ g. pre g at beside) f reached → pre reached at beside

module _ {F A I T : Type 0} (entry : I → T) (pre : F → A → I → Type 0) where
  -- f may be called at an entry of each item in turn, each time with the value reached
  abbrev pub MayFold : (F → A → I → A → F → Type 0) → F → A → List T → Type 0
  MayFold step f init items = (passed : List T) (item : T) (others : List T) (reached : F) (value : A)
      → items ≡ passed ++ item ∷ others → FoldRun (FoldAt entry step) f init passed value reached
      → (at : I) → entry at ≡ item → HoldsAsAtFirst (StaysOnTwo step) (λ g. pre g value at) f reached
      → pre reached value at

module _ {F A I T E : Type 0} (entry : I → T) (pre : F → A → I → Type 0)
    (step : F → A → I → Result A E → F → Type 0) where
  -- f may be called at an entry of each item in turn, each time with the value reached, as long as its calls are good
  abbrev pub MayTryFold : F → A → List T → Type 0
  MayTryFold f init items = (passed : List T) (item : T) (others : List T) (reached : F) (value : A)
      → items ≡ passed ++ item ∷ others → FoldRun (good_step (FoldAt entry step)) f init passed value reached
      → (at : I) → entry at ≡ item → HoldsAsAtFirst (StaysOnTwo step) (λ g. pre g value at) f reached
      → pre reached value at
