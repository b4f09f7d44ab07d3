use Rattle.ga_core_examples.proofs.signed.saturated_sum.Goals as goal
use Rattle.std.proofs.Common.{arith, rules}
use Rattle.std.proofs.lemmas.Int.{to_z-of_z}
use Rattle.std.specs.Int.RustNames.{FitsSigned}
use Rattle.std.specs.Int.{w32}

pub returns : goal.returns
returns g c = let f : FitsSigned w32 c.fold.result = search rules in search (rules, arith, to_z-of_z)
