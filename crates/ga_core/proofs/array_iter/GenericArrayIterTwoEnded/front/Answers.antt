use Rattle.ga_core.proofs.CutLemmas.{next-step}
use Rattle.ga_core.proofs.array_iter.GenericArrayIterTwoEnded.front.Goals as goal

pub returns : goal.returns
returns g c = record { step = next-step _ _ _ c.next.ensures.steps }
