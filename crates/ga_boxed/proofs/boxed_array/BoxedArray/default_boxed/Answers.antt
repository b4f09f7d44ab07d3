use Rattle.ga_boxed.proofs.AnswerLemmas.{IfOk-each}
use Rattle.ga_boxed.proofs.boxed_array.BoxedArray.default_boxed.Goals as goal
use Rattle.std.proofs.Common.{rules}

pub returns : goal.returns
returns g c =
    let made = IfOk-each _ g.T.Default.is_default (λ f x y next call. search rules) _ g.N.Unsigned.USIZE _
    c.generate.result c.generate.ensures.run.1 in
    record { items = made.0; len = made.1; each = made.2; empty = c.generate.ensures.empty }
