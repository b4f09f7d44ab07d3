use Rattle.ga_core.proofs.TwoEndedLemmas.{back-step}
use Rattle.ga_core.proofs.array_iter.GenericArrayIterTwoEnded.back.Goals as goal

pub returns : goal.returns
returns g c = record { step = back-step _ _ _ c.next_back.ensures.steps }
