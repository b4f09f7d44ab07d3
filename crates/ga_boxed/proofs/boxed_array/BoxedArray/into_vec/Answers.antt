use Rattle.ga_core.proofs.LeftLemmas.{all_moved}
use Rattle.ga_boxed.proofs.BlockLemmas.{moved_more}
use Rattle.ga_boxed.proofs.boxed_array.BoxedArray.into_vec.Goals as goal
use Rattle.std.proofs.Common.{ap, arith, length, refl}

pub take_first-requires : goal.take_first-requires
take_first-requires g c = record {
  enough = λ none. omega (arith, ap length none);
}

pub loop-moved-preserved : goal.loop-moved-preserved
loop-moved-preserved g c =
    let step = c.take_first.ensures.items in
    let pushed = c.push_reserved.ensures in
    record {
      moved = moved_more _ _ _ _ _ _ pushed.items c.loop-moved.invariant.moved step;
      left = omega (arith, ap length step, c.loop-moved.invariant.left);
      room = omega (arith, ap length step, c.loop-moved.invariant.room, pushed.len, pushed.capacity);
    }

pub returns : goal.returns
returns g c =
    record { ok = all_moved _ _ _ c.loop-moved.invariant.moved (omega arith); empty = λ none. refl }
