-- Laws of runs over joined lists, proved.
use Rattle.ga_core.proofs.JoinedRuns.{ClosureRun-in_turn}
use Rattle.ga_core.specs.Runs.{ClosureRun, TryClosureRun}
use Rattle.generic_array.specs.Laws.{ErrorRunsJoin, FoldsJoin, FoldsToErrorJoin, GoodFoldsJoin, GoodRunsJoin, RunInParts}
use Rattle.generic_array.specs.Laws.{RunsJoin}
use Rattle.std.proofs.Common.{◌≡◌, ◌↔◌, List, [], ◌∷◌, ◌++◌, Result, Ok, Err, inl, inr, refl, sym, subst, ap}

module _ {F X Y : Type 0} (step : F → X → Y → F → Type 0) where
  ClosureRun-cut : (f : F) (xs ys : List X) (answers : List Y) (last : F) → ClosureRun step f (xs ++ ys) answers last
      → RunInParts step f xs ys answers last
  ClosureRun-cut f [] ys answers last run = ([], answers, f, refl, refl, run)
  ClosureRun-cut f (x ∷ xs) ys [] last run = absurd run
  ClosureRun-cut f (x ∷ xs) ys (y ∷ answers) last run =
      let others = ClosureRun-cut run.0 xs ys answers last run.2 in
      (y ∷ others.0, others.1, others.2, ap (λ more. y ∷ more) others.3, (run.0, run.1, others.4), others.5)

  pub ClosureRun-joined : RunsJoin step
  ClosureRun-joined f xs ys answers last = (
    ClosureRun-cut f xs ys answers last,
    λ parts. ClosureRun-in_turn step f xs ys parts.0 parts.1 answers parts.2 last parts.3 parts.4 parts.5,
  )

module _ {F X Y E : Type 0} (step : F → X → Result Y E → F → Type 0) where
  abbrev GoodCall : F → X → Y → F → Type 0
  GoodCall f x y g = step f x (Ok y) g

  -- a run with no error is a run of good calls
  good-run : (f : F) (xs : List X) (answers : List Y) (last : F)
      → TryClosureRun step f xs (Ok answers) last ≡ ClosureRun GoodCall f xs answers last
  good-run f (x ∷ xs) (y ∷ answers) last = λ i. (g : F) × GoodCall f x y g × good-run g xs answers last i
  good-run f [] [] last = refl
  good-run f [] (y ∷ answers) last = refl
  good-run f (x ∷ xs) [] last = refl

  -- where no call of the first part failed
  pub TryClosureRun-joined : GoodRunsJoin step
  TryClosureRun-joined f xs ys answers last = subst
      (λ (Run : F → List X → List Y → F → Type 0). Run f (xs ++ ys) answers last
      ↔ ((first : List Y) × (second : List Y) × (reached : F) × (answers ≡ first ++ second)
      × Run f xs first reached × Run reached ys second last))
      (λ i g zs made end. sym (good-run g zs made end) i) (ClosureRun-joined GoodCall f xs ys answers last)

  error-behind : (f : F) (xs ys : List X) (first : List Y) (reached : F) (error : E) (last : F)
      → TryClosureRun step f xs (Ok first) reached
      → TryClosureRun step reached ys (Err error) last → TryClosureRun step f (xs ++ ys) (Err error) last
  error-behind f [] ys [] reached error last run then = rw run then
  error-behind f (x ∷ xs) ys (y ∷ first) reached error last run then =
      inr (y, run.0, run.1, error-behind run.0 xs ys first reached error last run.2 then)
  error-behind f _ ys _ reached error last run then = absurd run

  -- where a call failed, in the first part or in the second
  pub TryClosureRun-joined_error : ErrorRunsJoin step
  TryClosureRun-joined_error f [] ys error last = (
    λ run. inr ([], f, refl, run),
    λ parts. elim parts [
      | inl here ↦ absurd here
      | inr later ↦ error-behind f [] ys later.0 later.1 error last later.2 later.3
    ],
  )
  TryClosureRun-joined_error f (x ∷ xs) ys error last = (
    λ run. elim run [
      | inl call ↦ inl (inl call)
      | inr more ↦ elim ((TryClosureRun-joined_error more.1 xs ys error last).0 more.3) [
        | inl here ↦ inl (inr (more.0, more.1, more.2, here))
        | inr later ↦ inr (more.0 ∷ later.0, later.1, (more.1, more.2, later.2), later.3)
      ]
    ],
    λ parts. elim parts [
      | inl here ↦ elim here [
        | inl call ↦ inl call
        | inr more ↦ inr (more.0, more.1, more.2, (TryClosureRun-joined_error more.1 xs ys error last).1 (inl more.3))
      ]
      | inr later ↦ error-behind f (x ∷ xs) ys later.0 later.1 error last later.2 later.3
    ],
  )

module _ {F A X : Type 0} (step : F → A → X → A → F → Type 0) where
  pub FoldRun-joined : FoldsJoin step
  FoldRun-joined f init [] ys answer last = (λ run. (init, f, refl, run), λ parts. rw parts.2 parts.3)
  FoldRun-joined f init (x ∷ xs) ys answer last = (
    λ run.
        let others = (FoldRun-joined run.0.0 run.0.1 xs ys answer last).0 run.2 in
        (others.0, others.1, (run.0, run.1, others.2), others.3),
    λ parts.
        let run = parts.2 in
        (run.0, run.1, (FoldRun-joined run.0.0 run.0.1 xs ys answer last).1 (parts.0, parts.1, run.2, parts.3)),
  )

module _ {F A X E : Type 0} (step : F → A → X → Result A E → F → Type 0) where
  pub TryFoldRun-joined : GoodFoldsJoin step
  TryFoldRun-joined f init [] ys answer last =
      (λ run. (init, f, (refl, refl), run), λ parts. rw (parts.2.0, parts.2.1) parts.3)
  TryFoldRun-joined f init (x ∷ xs) ys answer last = (
    λ run.
        let others = (TryFoldRun-joined run.1 run.0 xs ys answer last).0 run.3 in
        (others.0, others.1, (run.0, run.1, run.2, others.2), others.3),
    λ parts.
        let run = parts.2 in
        (run.0, run.1, run.2, (TryFoldRun-joined run.1 run.0 xs ys answer last).1 (parts.0, parts.1, run.3, parts.3)),
  )

  pub TryFoldRun-joined_error : FoldsToErrorJoin step
  TryFoldRun-joined_error f init [] ys error last = (
    λ run. inr (init, f, (refl, refl), run),
    λ parts. elim parts [ inl here ↦ absurd here | inr later ↦ rw (later.2.0, later.2.1) later.3 ],
  )
  TryFoldRun-joined_error f init (x ∷ xs) ys error last = (
    λ run. elim run [
      | inl call ↦ inl (inl call)
      | inr more ↦ elim ((TryFoldRun-joined_error more.1 more.0 xs ys error last).0 more.3) [
        | inl here ↦ inl (inr (more.0, more.1, more.2, here))
        | inr later ↦ inr (later.0, later.1, (more.0, more.1, more.2, later.2), later.3)
      ]
    ],
    λ parts. elim parts [
      | inl here ↦ elim here [
        | inl call ↦ inl call
        | inr more ↦
            let whole = (TryFoldRun-joined_error more.1 more.0 xs ys error last).1 (inl more.3) in
            inr (more.0, more.1, more.2, whole)
      ]
      | inr later ↦
          let run = later.2 in
          let whole = (TryFoldRun-joined_error run.1 run.0 xs ys error last).1 (inr (later.0, later.1, run.3, later.3)) in
          inr (run.0, run.1, run.2, whole)
    ],
  )
