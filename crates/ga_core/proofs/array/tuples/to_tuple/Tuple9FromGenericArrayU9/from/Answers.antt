use Rattle.ga_core.proofs.TupleLemmas.{all_stand}
use Rattle.ga_core.proofs.array.tuples.to_tuple.Tuple9FromGenericArrayU9.from.Goals as goal
use Rattle.std.proofs.Common.{◌∙◌, rules, sym}

pub returns : goal.returns
returns g c =
    sym c.array.view_is ∙ (sym c.array_of_store.ensures ∙ all_stand c.array_of_store.result _ (search rules) (search rules))
