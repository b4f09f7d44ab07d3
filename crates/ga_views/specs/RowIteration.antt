-- What iterators over rows give.
use Rattle.ga_views.specs.declared.array_ref.GenericArrayRef.{GenericArrayRef}
use Rattle.ga_views.specs.declared.length.Unsigned as unsigned
use Rattle.std.specs.Iterator.{YieldsFirstBy, YieldsLastBy}
use Rattle.std.specs.Iterator.Runs.{EveryRun, ItemsMapTo, ItemsMapToReversed}
use Rattle.std.specs.Prelude.{List}

module _ (T N : Type 0) (n : unsigned.Ghosts N) where
  -- a run of calls gives the rows, as views, from the first on
  abbrev pub RowsInOrder : Type 0
  RowsInOrder = EveryRun (YieldsFirstBy {S = List (List T)} {A = GenericArrayRef T N n} (λ view. view.slice.now)
      (λ left. left)) (λ run. ItemsMapTo run (λ view. view.slice.now) run.from)

  -- a run of calls from the back gives the rows, as views, from the last on
  abbrev pub RowsInReverse : Type 0
  RowsInReverse = EveryRun (YieldsLastBy {S = List (List T)} {A = GenericArrayRef T N n} (λ view. view.slice.now)
      (λ left. left)) (λ run. ItemsMapToReversed run (λ view. view.slice.now) run.from)
