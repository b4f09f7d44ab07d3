-- Runs of a closure over joined lists, and when it may be called along them.
use Rattle.ga_core.proofs.CallLemmas.{may_map-at}
use Rattle.ga_core.specs.Calls.{MayMap}
use Rattle.ga_core.specs.Entries.{CallAt}
use Rattle.ga_core.specs.Runs.{ClosureRun}
use Rattle.std.proofs.Common.{◌≡◌, List, [], ◌∷◌, ◌++◌, ap, append_assoc, subst, sym, ◌∙◌}

module _ {F X Y : Type 0} (step : F → X → Y → F → Type 0) where
  -- a run over the first list, and one over the second from the state that it reached
  pub ClosureRun-join : (f : F) (xs ys : List X) (first second : List Y) (reached last : F)
      → ClosureRun step f xs first reached → ClosureRun step reached ys second last
      → ClosureRun step f (xs ++ ys) (first ++ second) last
  ClosureRun-join f [] ys [] second reached last run then = subst (λ k. ClosureRun step k ys second last) (sym run) then
  ClosureRun-join f (x ∷ xs) ys (y ∷ first) second reached last run then =
      (run.0, run.1, ClosureRun-join run.0 xs ys first second reached last run.2 then)
  ClosureRun-join f _ ys _ second reached last run then = absurd run

  -- the same, where the results of both are those of the whole
  pub ClosureRun-in_turn : (f : F) (xs ys : List X) (first second all : List Y) (between last : F)
      → all ≡ first ++ second → ClosureRun step f xs first between
      → ClosureRun step between ys second last → ClosureRun step f (xs ++ ys) all last
  ClosureRun-in_turn f xs ys first second all between last joined run then =
      rw joined (ClosureRun-join f xs ys first second between last run then)

module _ {F I T Y : Type 0} (entry : I → T) (pre : F → I → Type 0) (step : F → I → Y → F → Type 0) where
  -- what may be called over joined lists may be called over the first
  pub MayMap-first : (f : F) (xs ys : List T) → MayMap entry pre step f (xs ++ ys) → MayMap entry pre step f xs
  MayMap-first f xs ys may passed x others answers reached whole =
      may passed x (others ++ ys) answers reached (ap (λ all. all ++ ys) whole ∙ append_assoc passed (x ∷ others) ys)

  -- and then over the second
  pub MayMap-second : (f : F) (xs ys : List T) (first : List Y) (between : F) → MayMap entry pre step f (xs ++ ys)
      → ClosureRun (CallAt entry step) f xs first between → MayMap entry pre step between ys
  MayMap-second f xs ys first between may ran passed x others answers reached whole run item is stays =
      may_map-at entry pre step f (xs ++ ys) may (xs ++ passed) x others (first ++ answers) reached
      (ap (λ all. xs ++ all) whole ∙ sym (append_assoc xs passed (x ∷ others)))
      (ClosureRun-join (CallAt entry step) f xs passed first answers between reached ran run) item is
