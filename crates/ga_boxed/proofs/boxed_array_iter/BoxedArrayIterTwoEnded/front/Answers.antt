use Rattle.ga_boxed.proofs.boxed_array_iter.BoxedArrayIterTwoEnded.front.Goals as goal
use Rattle.ga_core.proofs.CutLemmas.{next-step}

pub returns : goal.returns
returns g c = record { step = next-step _ _ _ c.next.ensures.steps }
