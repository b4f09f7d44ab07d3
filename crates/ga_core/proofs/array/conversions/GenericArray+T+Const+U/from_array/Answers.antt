use Rattle.ga_core.proofs.array.conversions.GenericArray+T+Const+U.from_array.Goals as goal
use Rattle.std.proofs.Common.{◌∙◌, ap, length, rules}

pub invariant_of-result : goal.invariant_of-result
invariant_of-result g c = (ap length c.store_of_array.ensures ∙ search rules, c.requires.fits)

pub returns : goal.returns
returns g c = c.store_of_array.ensures
