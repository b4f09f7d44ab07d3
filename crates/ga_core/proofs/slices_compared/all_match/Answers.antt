use Rattle.ga_core.proofs.PairLemmas.{pointwise-all, pointwise-next}
use Rattle.ga_core.proofs.slices_compared.all_match.Goals as goal
use Rattle.std.proofs.Common.{◌∙◌}

pub loop-index-preserved : goal.loop-index-preserved
loop-index-preserved g c =
    let more = pointwise-next g.T.PartialEq.eq c.loop-index.index c.args.left.now c.args.right.now
    c.index-left-index.result c.index-right-index.result
    c.loop-index-test.true c.requires.len c.index-left-index.is c.index-right-index.is in
    cc (more, c.loop-index.invariant, c.eq-same.ensures)

pub returns : goal.returns
returns g c = record {
  equal = c.loop-index.invariant
      ∙ pointwise-all g.T.PartialEq.eq c.loop-index.index c.args.left.now c.args.right.now c.loop-index-test.false
      c.requires.len;
}
