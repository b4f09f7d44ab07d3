use Rattle.ga_core.proofs.MoveLemmas.{left-next, pushed-next, this-here}
use Rattle.ga_core.proofs.slots.move_items.Goals as goal
use Rattle.std.proofs.Common.{◌<◌, ◌∙◌, arith, length, subst, sym, All}
use Rattle.std.proofs.lemmas.List.{take_all, take_more_set}

pub loop-index-preserved : goal.loop-index-preserved
loop-index-preserved g c =
    let at = c.loop-index in
    let within : at.index < length at.items =
    omega (arith, c.loop-index-test.true, at.auto.index-end, at.auto.items, c.requires.len) in
    record {
      moved = pushed-next at.index c.args.items.now at.items _ _ c.take.result c.take.new.dest within
          (this-here at.index at.items _ _ c.index-items-index.is c.take.ensures.value) at.invariant.moved
          (take_more_set at.slots at.index c.take.result
          (omega (arith, c.loop-index-test.true, at.auto.index-end, at.auto.slots)));
      left = left-next g.T.Default.is_default at.index at.items c.take.new.dest within at.invariant.left
          c.take.ensures.after;
    }

pub returns-clause-moved : goal.returns-clause-moved
returns-clause-moved g c =
    let at = c.loop-index in
    sym (take_all at.index at.slots (omega (arith, c.loop-index-test.false, at.auto.slots)))
    ∙ (at.invariant.moved.0
    ∙ take_all at.index c.args.items.now (omega (arith, c.loop-index-test.false, at.auto.slots, c.requires.len)))

pub returns-clause-left : goal.returns-clause-left
returns-clause-left g c =
    let at = c.loop-index in
    subst (All g.T.Default.is_default)
    (take_all at.index at.items (omega (arith, c.loop-index-test.false, at.auto.items, c.requires.len)))
    at.invariant.left
