use Rattle.generic_array.proofs.LawLemmas.{FoldRun-joined}
use Rattle.generic_array.proofs.laws.folds_join.Goals as goal

pub returns : goal.returns
returns g c = FoldRun-joined (goal.F-step g)
