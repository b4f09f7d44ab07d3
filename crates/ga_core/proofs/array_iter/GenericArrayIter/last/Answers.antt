use Rattle.ga_core.proofs.LeftLemmas.{left-end}
use Rattle.ga_core.proofs.array_iter.GenericArrayIter.last.Goals as goal

pub returns : goal.returns
returns g c = left-end _ _ _ c.next_back.ensures.steps
