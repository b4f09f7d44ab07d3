use Rattle.generic_array.proofs.LawLemmas.{ClosureRun-joined}
use Rattle.ga_headline.proofs.joined_runs.zips_join.Goals as goal

pub returns : goal.returns
returns g c = ClosureRun-joined _
