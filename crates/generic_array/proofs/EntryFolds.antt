-- What folds over entries come to that stop at the first error, where the closure acts as a function: each call answers
-- h, and leaves the closure as it is.
use Rattle.ga_core.proofs.ActsLemmas.{fold_call_at}
use Rattle.ga_core.specs.Entries.{ActsInFold, FoldAt}
use Rattle.ga_core.specs.Runs.{TryFoldRun}
use Rattle.ga_core.specs.Tries.{result_and_then, try_fold}
use Rattle.std.proofs.Common.{◌≡◌, List, [], ◌∷◌, Result, Ok, Err, inl, inr, ap, sym}

module _ {I T F A E : Type 0} (entry : I → T) (step : F → A → I → Result A E → F → Type 0) (f : F)
    (h : A → T → Result A E) (acts : ActsInFold entry step f h) where
  -- a fold up to the first error is that of h
  pub try_fold_at_entries : (a : A) (xs : List T) (answer : Result A E) (last : F)
      → TryFoldRun (FoldAt entry step) f a xs answer last → answer ≡ try_fold h a xs
  try_fold_at_entries a [] (Ok b) last run = sym (ap Ok run.0)
  try_fold_at_entries a [] (Err error) last run = absurd run
  try_fold_at_entries a (x ∷ xs) (Ok b) last run =
      let call = fold_call_at entry step f h acts a x (Ok run.0) run.1 run.2 in
      rw (← call.1) (try_fold_at_entries run.0 xs (Ok b) last (rw call.0 at run.3))
  try_fold_at_entries a (x ∷ xs) (Err error) last (inl failed) =
      ap (result_and_then (λ c. try_fold h c xs)) (fold_call_at entry step f h acts a x (Err error) last failed).1
  try_fold_at_entries a (x ∷ xs) (Err error) last (inr good) =
      let call = fold_call_at entry step f h acts a x (Ok good.0) good.1 good.2 in
      rw (← call.1) (try_fold_at_entries good.0 xs (Err error) last (rw call.0 at good.3))
