use Rattle.ga_boxed.proofs.boxed_array_iter.BoxedArrayIterTwoEnded.back.Goals as goal
use Rattle.ga_core.proofs.TwoEndedLemmas.{back-step}

pub returns : goal.returns
returns g c = record { step = back-step _ _ _ c.next_back.ensures.steps }
