use Rattle.ga_core.proofs.PairLemmas.{compare-rest, partial_cmp-skips}
use Rattle.ga_core.proofs.slices_compared.partial_order.Goals as goal
use Rattle.std.proofs.Common.{◌∙◌}

pub returns : goal.returns
returns g c = record {
  order = c.partial_cmp.ensures ∙ compare-rest g.T.PartialEq.eq _ (partial_cmp-skips _ g.met.T.PartialOrd.laws)
      c.order_start-start.result c.args.left.now c.args.right.now c.order_start-start.ensures.equal;
}
