use Rattle.ga_core.proofs.KeyLemmas.{strictly_sorted}
use Rattle.ga_core_examples.proofs.keys.sorted_once.Goals as goal

pub returns : goal.returns
returns g c = strictly_sorted _ _ c.sort_unstable.ensures.sorted c.dedup.ensures.filtered
