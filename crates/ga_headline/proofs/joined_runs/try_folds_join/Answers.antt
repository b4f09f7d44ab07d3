use Rattle.generic_array.proofs.LawLemmas.{TryFoldRun-joined, TryFoldRun-joined_error}
use Rattle.ga_headline.proofs.joined_runs.try_folds_join.Goals as goal
use Rattle.generic_array.specs.Entries.{FoldAt}

pub returns-clause-good : goal.returns-clause-good
returns-clause-good g c = TryFoldRun-joined (FoldAt g.S.GenericSequence.entry (goal.F-step g))

pub returns-clause-error : goal.returns-clause-error
returns-clause-error g c = TryFoldRun-joined_error (FoldAt g.S.GenericSequence.entry (goal.F-step g))
