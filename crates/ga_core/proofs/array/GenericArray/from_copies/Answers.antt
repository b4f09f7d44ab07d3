use Rattle.ga_core.proofs.CopyLemmas.{map-same}
use Rattle.ga_core.proofs.array.GenericArray.from_copies.Goals as goal
use Rattle.std.proofs.Common.{◌∙◌, rules}

pub returns : goal.returns
returns g c = c.generate.ensures.acts (λ _. c.args.item) (search rules) ∙ map-same c.args.item g.N.Unsigned.USIZE
