use Rattle.ga_boxed.proofs.boxed_array_iter.BoxedArrayIter.clone.Goals as goal
use Rattle.ga_core.proofs.CopyLemmas.{AllZip-same}
use Rattle.std.proofs.Common.{ap, arith, length, length-append, refl, take_all}
use Rattle.std.proofs.lemmas.List.Elements.{all_zip_more}

pub loop-item-preserved : goal.loop-item-preserved
loop-item-preserved g c = record {
  long = omega (arith, simp length-append at (ap length c.put.ensures.items));
  room = omega arith;
  clones = rw c.put.ensures.items
      (all_zip_more g.T.Clone.is_clone c.as_slice-item-items.result.now c.loop-item.clones.items c.loop-item.item-index
      c.item-item.result _ c.loop-item-test.true c.item-item.is c.loop-item.invariant.clones
      c.in_ok-clone.ensures.cases);
}

pub returns : goal.returns
returns g c =
    let items = c.as_slice-item-items in
    let clones = rw (take_all c.loop-item.item-index items.result.now c.loop-item-test.false, items.ensures) at
    c.loop-item.invariant.clones in
    rw c.from_block.ensures record {
      items = clones;
      same = λ exact. AllZip-same g.T.Clone.is_clone c.args.self.now _ exact clones;
      empty = λ none. refl;
    }
