-- What a map and a walk, or a build before them, come to, and where they may stop.
use Rattle.ga_headline.specs.declared.whole.Stopped.{Stopped}
use Rattle.ga_headline.specs.declared.whole.Stopped.TheVariants.{Build, Call, NotMapped, NotWalked}
use Rattle.generic_array.specs.Fill.{FillFalliblyRuns, FillsFallibly}
use Rattle.generic_array.specs.Placed.{IfPlaced}
use Rattle.generic_array.specs.declared.FillError.{FillError}
use Rattle.generic_array.specs.declared.FillError.TheVariants.{Place}
use Rattle.std.specs.Prelude.{◌≡◌, ℕ, List, ⊤, Ok, Err, Option, Result}

-- a fill of n items came to this, told in both forms: exactly, and as a run
pub record Filled {S T E F : Type 0} (next_gives : S → Option (Result T E) → S → Type 0) (before : S) (n : ℕ)
    (built : Result (Result (List T) E) F) (after : S) : Type 0 where
  pub fill : FillsFallibly next_gives before n built after
  pub runs : FillFalliblyRuns next_gives before n built

-- the iterator gave exactly these n good items, and then ended
abbrev pub Comes : {S T E : Type 0} → (S → Option (Result T E) → S → Type 0) → S → ℕ → List T → S → Type 0
Comes {S} {T} {E} next_gives before n items after = Filled {F = E} next_gives before n (Ok (Ok items)) after

-- a fact for each part that may have stopped
abbrev pub MatchStopped : {B D Q : Type 0} → Stopped B D Q → (B → Type 0) → (D → Type 0) → (Q → Type 0) → Type 0 → Type 0
MatchStopped (Build error) InBuild InCall InMap InWalk = InBuild error
MatchStopped (Call error) InBuild InCall InMap InWalk = InCall error
MatchStopped (NotMapped refused) InBuild InCall InMap InWalk = InMap refused
MatchStopped (NotWalked refused) InBuild InCall InMap InWalk = InWalk

-- no memory was refused that was promised: to the map, or room for the replies
abbrev pub MapKeepsPromises : {B D Q : Type 0} → Type 0 → Type 0 → Stopped B D Q → Type 0
MapKeepsPromises MapPromised Room why = MatchStopped why (λ _. ⊤) (λ _. ⊤) (λ _. ¬ MapPromised) (¬ Room)

-- the same, and none to the build
abbrev pub KeepsPromises : {E P D Q : Type 0} → Type 0 → Type 0 → Type 0 → Stopped (FillError E P) D Q → Type 0
KeepsPromises BuildPromised MapPromised Room (Build (Place refused)) = ¬ BuildPromised
KeepsPromises BuildPromised MapPromised Room why = MapKeepsPromises MapPromised Room why

-- what led a map and a walk over the items to stop, and how the closure of the map was left
abbrev pub MapStoppedAt : {T B U D Q F : Type 0} → (F → List T → Result (List U) D → F → Type 0) → F → List T
    → Stopped B D Q → F → Type 0
MapStoppedAt {U = U} run f items why last = MatchStopped why (λ _. ⊥) (λ error. run f items (Err error) last)
    (λ _. last ≡ f) ((values : List U) × run f items (Ok values) last)

module _ {I T E P U D Q F : Type 0} (next_gives : I → Option (Result T E) → I → Type 0) (n : ℕ)
    (run : F → List T → Result (List U) D → F → Type 0) (before : I) (f : F) where
  -- the same of a build, a map and a walk, and how the iterator was left
  abbrev pub StoppedAt : Stopped (FillError E P) D Q → I → F → Type 0
  StoppedAt (Build error) after last = IfPlaced {A = List T} (Err error) (λ built. Filled next_gives before n built after)
      × ((refused : P) → error ≡ Place refused → after ≡ before) × (last ≡ f)
  StoppedAt why after last = (list : List T) × Comes next_gives before n list after × MapStoppedAt run f list why last
