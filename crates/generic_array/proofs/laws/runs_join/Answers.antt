use Rattle.generic_array.proofs.LawLemmas.{ClosureRun-joined}
use Rattle.generic_array.proofs.laws.runs_join.Goals as goal

pub returns : goal.returns
returns g c = ClosureRun-joined (goal.F-step g)
