use Rattle.generic_array.proofs.LawLemmas.{FoldRun-joined}
use Rattle.ga_headline.proofs.joined_runs.folds_join.Goals as goal

pub returns : goal.returns
returns g c = FoldRun-joined _
