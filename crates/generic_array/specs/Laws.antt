-- Laws of runs over joined lists.
use Rattle.ga_core.specs.Runs.{ClosureRun, TryClosureRun, FoldRun, TryFoldRun}
use Rattle.std.specs.Prelude.{◌≡◌, ◌⊎◌, ◌↔◌, List, ◌++◌, Result, Ok, Err}

module _ {F X Y : Type 0} (step : F → X → Y → F → Type 0) where
  -- a run over the first list, and one over the second from the state that it reached, with their results joined
  abbrev pub RunInParts : F → List X → List X → List Y → F → Type 0
  RunInParts f xs ys answers last = (first : List Y) × (second : List Y) × (reached : F)
      × (answers ≡ first ++ second) × ClosureRun step f xs first reached × ClosureRun step reached ys second last

  -- the runs over joined lists are those in parts
  abbrev pub RunsJoin : Type 0
  RunsJoin = (f : F) (xs ys : List X) (answers : List Y) (last : F)
      → ClosureRun step f (xs ++ ys) answers last ↔ RunInParts f xs ys answers last

module _ {F X Y E : Type 0} (step : F → X → Result Y E → F → Type 0) where
  -- the good runs over joined lists are good calls over the first, and over the second from the state that they
  -- reached, with their results joined
  abbrev pub GoodRunsJoin : Type 0
  GoodRunsJoin = (f : F) (xs ys : List X) (answers : List Y) (last : F)
      → TryClosureRun step f (xs ++ ys) (Ok answers) last
      ↔ ((first : List Y) × (second : List Y) × (reached : F) × (answers ≡ first ++ second)
      × TryClosureRun step f xs (Ok first) reached × TryClosureRun step reached ys (Ok second) last)

  -- the first error comes in the first list, with no call at the second, or good calls over the first lead to it in
  -- the second
  abbrev pub ErrorRunsJoin : Type 0
  ErrorRunsJoin = (f : F) (xs ys : List X) (error : E) (last : F)
      → TryClosureRun step f (xs ++ ys) (Err error) last
      ↔ (TryClosureRun step f xs (Err error) last
      ⊎ ((first : List Y) × (reached : F) × TryClosureRun step f xs (Ok first) reached
      × TryClosureRun step reached ys (Err error) last))

module _ {F A X : Type 0} (step : F → A → X → A → F → Type 0) where
  -- a fold over joined lists is one over the second from what the one over the first came to
  abbrev pub FoldsJoin : Type 0
  FoldsJoin = (f : F) (init : A) (xs ys : List X) (answer : A) (last : F)
      → FoldRun step f init (xs ++ ys) answer last
      ↔ ((value : A) × (reached : F) × FoldRun step f init xs value reached
      × FoldRun step reached value ys answer last)

module _ {F A X E : Type 0} (step : F → A → X → Result A E → F → Type 0) where
  -- the folds with no error over joined lists are those over the second list from what those over the first came to
  abbrev pub GoodFoldsJoin : Type 0
  GoodFoldsJoin = (f : F) (init : A) (xs ys : List X) (answer : A) (last : F)
      → TryFoldRun step f init (xs ++ ys) (Ok answer) last
      ↔ ((value : A) × (reached : F) × TryFoldRun step f init xs (Ok value) reached
      × TryFoldRun step reached value ys (Ok answer) last)

  -- the first error comes in the first list, with no call at the second, or in the second, from what the first came to
  abbrev pub FoldsToErrorJoin : Type 0
  FoldsToErrorJoin = (f : F) (init : A) (xs ys : List X) (error : E) (last : F)
      → TryFoldRun step f init (xs ++ ys) (Err error) last
      ↔ (TryFoldRun step f init xs (Err error) last
      ⊎ ((value : A) × (reached : F) × TryFoldRun step f init xs (Ok value) reached
      × TryFoldRun step reached value ys (Err error) last))
