use Rattle.ga_boxed.proofs.boxed_array.BoxedArray.from_copies.Goals as goal
use Rattle.ga_core.proofs.CopyLemmas.{map-same}
use Rattle.std.proofs.Common.{◌∙◌, rules}
use Rattle.std.proofs.lemmas.Result.{IfOk-weaker}

pub returns-clause-items : goal.returns-clause-items
returns-clause-items g c =
    IfOk-weaker c.generate.result _ _
    (λ array acts. acts (λ _. c.args.item) (search rules) ∙ map-same c.args.item g.N.Unsigned.USIZE)
    c.generate.ensures.acts
