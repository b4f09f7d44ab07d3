use Rattle.ga_core.proofs.PairLemmas.{cmp-skips, compare-rest}
use Rattle.ga_core.proofs.slices_compared.total_order.Goals as goal
use Rattle.std.proofs.Common.{◌∙◌}

pub returns : goal.returns
returns g c = record {
  order = c.cmp.ensures ∙ compare-rest g.T.PartialEq.eq _ (cmp-skips _ g.T.Ord.cmp g.met.T.Ord.matches_eq)
      c.order_start-start.result c.args.left.now c.args.right.now c.order_start-start.ensures.equal;
}
