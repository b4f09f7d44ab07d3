use Rattle.generic_array.proofs.LawLemmas.{TryClosureRun-joined, TryClosureRun-joined_error}
use Rattle.generic_array.proofs.laws.try_runs_join.Goals as goal

pub returns : goal.returns
returns g c = record { good = TryClosureRun-joined (goal.F-step g); error = TryClosureRun-joined_error (goal.F-step g) }
