use Rattle.ga_core.proofs.LeftLemmas.{left-stays}
use Rattle.ga_core.proofs.array_iter.GenericArrayIter.drop_left.Goals as goal
use Rattle.std.proofs.Common.{◌∙◌, ap, arith, drop, sym, drop_of_length-le, drop-drop}

pub loop-item-preserved : goal.loop-item-preserved
loop-item-preserved g c =
    sym (ap (drop 1) c.take_first.ensures) ∙ (ap (drop 1) c.loop-item.invariant
    ∙ drop-drop 1 c.loop-item._item c.args.self.now)

pub returns : goal.returns
returns g c = c.loop-item.invariant ∙ drop_of_length-le c.args.self.now
    (omega (arith, c.loop-item-test.false, c.loop-item.auto._item-end, c.len-item-end.ensures))

pub take_first-requires : goal.take_first-requires
take_first-requires g c = record {
  enough = left-stays c.args.self.now c.loop-item.self c.loop-item-test.true c.len-item-end.ensures c.loop-item.invariant;
}
