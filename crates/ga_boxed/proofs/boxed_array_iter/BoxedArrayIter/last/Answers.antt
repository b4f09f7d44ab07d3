use Rattle.ga_boxed.proofs.boxed_array_iter.BoxedArrayIter.last.Goals as goal
use Rattle.ga_core.proofs.LeftLemmas.{left-end}

pub returns : goal.returns
returns g c = left-end _ _ _ c.next_back.ensures.steps
