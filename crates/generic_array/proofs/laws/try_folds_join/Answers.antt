use Rattle.generic_array.proofs.LawLemmas.{TryFoldRun-joined, TryFoldRun-joined_error}
use Rattle.generic_array.proofs.laws.try_folds_join.Goals as goal

pub returns : goal.returns
returns g c = record { good = TryFoldRun-joined (goal.F-step g); error = TryFoldRun-joined_error (goal.F-step g) }
