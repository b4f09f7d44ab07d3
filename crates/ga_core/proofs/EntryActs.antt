-- What runs over entries come to, where the closure acts as a function: each call returns h of what the entry stands
-- for, and leaves the closure as it is.
use Rattle.ga_core.proofs.ActsLemmas.{answers_of_run, answers_until_error}
use Rattle.ga_core.specs.Entries.{ActsOnEntries, ActsOnEntry, CallAt, CallAtPair}
use Rattle.ga_core.specs.Runs.{ClosureRun, TryClosureRun}
use Rattle.ga_core.specs.Tries.{try_map}
use Rattle.std.proofs.Common.{◌≡◌, List, Result, ap, map, ◌∙◌}

module _ {I T F Y : Type 0} (entry : I → T) (step : F → I → Y → F → Type 0) (f : F) (h : T → Y)
    (acts : ActsOnEntry entry step f h) where
  call_at : (x : T) (y : Y) (next : F) → CallAt entry step f x y next → (next ≡ f) × (y ≡ h x)
  call_at x y next call = let o = acts call.0 y next call.2 in (o.0, o.1 ∙ ap h call.1)

  -- a run answers h of each value
  pub answers_at_entries : (xs : List T) (ys : List Y) (last : F) → ClosureRun (CallAt entry step) f xs ys last
      → ys ≡ map h xs
  answers_at_entries = answers_of_run (CallAt entry step) f h call_at

module _ {I J T B F Y : Type 0} (entry : I → T) (other : J → B) (step : F → I → J → Y → F → Type 0) (f : F)
    (h : T × B → Y) (acts : ActsOnEntries entry other step f h) where
  call_at_pair : (p : T × B) (y : Y) (next : F) → CallAtPair entry other step f p y next → (next ≡ f) × (y ≡ h p)
  call_at_pair p y next call =
      let o = acts call.0 call.1 y next call.4 in
      (o.0, o.1 ∙ (ap (λ l. h (l, other call.1)) call.2 ∙ ap (λ r. h (p.0, r)) call.3))

  -- a run answers h of each pair
  pub answers_at_pairs : (xs : List (T × B)) (ys : List Y) (last : F)
      → ClosureRun (CallAtPair entry other step) f xs ys last → ys ≡ map h xs
  answers_at_pairs = answers_of_run (CallAtPair entry other step) f h call_at_pair

module _ {I T F Y E : Type 0} (entry : I → T) (step : F → I → Result Y E → F → Type 0) (f : F) (h : T → Result Y E)
    (acts : ActsOnEntry entry step f h) where
  -- a run up to the first error answers all good answers of h, or its first error
  pub tries_at_entries : (xs : List T) (answer : Result (List Y) E) (last : F)
      → TryClosureRun (CallAt entry step) f xs answer last → answer ≡ try_map h xs
  tries_at_entries = answers_until_error (CallAt entry step) f h (call_at entry step f h acts)
