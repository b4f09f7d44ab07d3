use Rattle.ga_core.proofs.PairLemmas.{block-differs, block-equal}
use Rattle.ga_core.proofs.slices_compared.equal_start.Goals as goal
use Rattle.std.proofs.Common.{◌+◌, ◌-◌, arith, length}

pub returns-then-not-parts_match-clause-differs : goal.returns-then-not-parts_match-clause-differs
returns-then-not-parts_match-clause-differs g c some =
    let start = c.loop-start.start in
    block-differs g.T.PartialEq.eq start (start + c.block_of-block.result - start) c.args.left.now c.args.right.now
    c.if-not-parts_match.ensures.equal

pub loop-start-preserved : goal.loop-start-preserved
loop-start-preserved g c =
    let at = c.loop-start in
    let end = at.start + c.block_of-block.result in
    record {
      within = omega arith;
      equal = block-equal g.T.PartialEq.eq at.start (end - at.start) end c.args.left.now c.args.right.now
          (omega arith) at.invariant.equal c.if-not-parts_match.ensures.equal;
    }

pub returns-then-parts_match-clause-equal : goal.returns-then-parts_match-clause-equal
returns-then-parts_match-clause-equal g c =
    let end = length c.args.left.now in
    block-equal g.T.PartialEq.eq c.loop-start.start (end - c.loop-start.start) end c.args.left.now c.args.right.now
    (omega arith) c.loop-start.invariant.equal c.if-parts_match.ensures.equal

pub returns-else-parts_match-clause-differs : goal.returns-else-parts_match-clause-differs
returns-else-parts_match-clause-differs g c some =
    let start = c.loop-start.start in
    block-differs g.T.PartialEq.eq start (length c.args.left.now - start) c.args.left.now c.args.right.now
    c.if-parts_match.ensures.equal
