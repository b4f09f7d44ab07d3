use Rattle.ga_boxed.proofs.boxed_array.BoxedArray.from_inline.Goals as goal
use Rattle.ga_core.proofs.MoveLemmas.{pushed-next, this-here}
use Rattle.std.proofs.Common.{ap, arith, length, refl, subst, sym, ◌<◌, ◌∙◌, ◌≤◌, take_all}

pub put-requires : goal.put-requires
put-requires g c = record {
  room = omega (arith, ap length c.as_mut_slice-slots.ensures.items);
}

pub loop-slot-preserved : goal.loop-slot-preserved
loop-slot-preserved g c =
    let at = c.loop-slot in
    record {
      moved = pushed-next at.slot-index c.args.array at.slots at.block.items c.put.new.self.items c.take.result
          c.take.new.dest (subst (λ n. at.slot-index < n) (sym at.auto.slots) c.loop-slot-test.true)
          (this-here at.slot-index at.slots c.slot-item.result c.take.result c.slot-item.is c.take.ensures.value)
          at.invariant.moved c.put.ensures.items;
      room = omega arith;
    }

pub returns : goal.returns
returns g c =
    let at = c.loop-slot in
    let past = subst (λ n. n ≤ at.slot-index) (ap length c.as_mut_slice-slots.ensures.items) c.loop-slot-test.false in
    record {
      ok = c.from_block.ensures ∙ at.invariant.moved.0 ∙ take_all at.slot-index c.args.array past;
      empty = λ none. refl;
    }
