use Rattle.generic_array.proofs.LawLemmas.{TryClosureRun-joined, TryClosureRun-joined_error}
use Rattle.ga_headline.proofs.joined_runs.try_maps_join.Goals as goal
use Rattle.generic_array.specs.Entries.{CallAt}

pub returns-clause-good : goal.returns-clause-good
returns-clause-good g c = TryClosureRun-joined (CallAt g.S.GenericSequence.entry (goal.F-step g))

pub returns-clause-error : goal.returns-clause-error
returns-clause-error g c = TryClosureRun-joined_error (CallAt g.S.GenericSequence.entry (goal.F-step g))
