use Rattle.ga_views.proofs.chunk_iter.ChunkIter.over.Goals as goal
use Rattle.std.proofs.Common.{ap, length}
use Rattle.std.proofs.iter.runs.Sources.{from_back, from_front}

-- each call gives the first row that is left
pub returns-clause-runs : goal.returns-clause-runs
returns-clause-runs g c = from_front _ (λ view. view.slice.now) (λ left. left) (λ before after ended. ap length ended.0)
    (λ before item after came. came)

-- or, from the back, the last
pub returns-clause-runs_back : goal.returns-clause-runs_back
returns-clause-runs_back g c = from_back _ (λ view. view.slice.now) (λ left. left)
    (λ before after ended. ap length ended.0) (λ before item after came. came)
