use Rattle.std.proofs.Common.{ap, length}
use Rattle.std.proofs.iter.runs.Sources.{from_front}
use Rattle.std.specs.Iterator.{YieldsFirstRef}
use Rattle.generic_array.proofs.sequence.flat_iter.iter_flat.Goals as goal

-- each call gives the first item that is left
pub returns-clause-runs : goal.returns-clause-runs
returns-clause-runs g c =
    from_front (YieldsFirstRef {A = g.row.T.Denot} (λ left. left)) (λ x. x.now) (λ left. left)
    (λ before after ended. ap length ended.0) (λ before item after came. came)
