use Rattle.ga_boxed.proofs.boxed_array.builds.put_some.Goals as goal
use Rattle.ga_core.proofs.CallLemmas.{may_generate-at}
use Rattle.ga_core.proofs.RunLemmas.{ClosureRun-snoc, below-add_one}
use Rattle.std.proofs.Common.{◌+◌, ap, arith, length, length-append}
use Rattle.std.proofs.lemmas.List.{length_push}
use Rattle.std.specs.List.{range_with_len}

pub f-requires : goal.f-requires
f-requires g c =
    let begun = c.requires.callable.0 in
    let at = c.loop-put in
    may_generate-at (goal.F-pre g) (goal.F-step g) begun (length c.args.block.now.items + c.args.count)
    c.requires.callable.1 c.len-index.result at.block.items at.f
    (omega (arith, c.len-index.ensures, at.invariant.long, c.loop-put-test.true))
    (rw c.len-index.ensures (at.invariant.run begun c.requires.callable.2))

pub loop-put-preserved : goal.loop-put-preserved
loop-put-preserved g c =
    let at = c.loop-put in
    record {
      run = λ begun ran.
          rw (c.put.ensures.items, length_push at.block.items c.f.result, below-add_one (length at.block.items))
          (rw c.len-index.ensures at
          (ClosureRun-snoc (goal.F-step g) begun (range_with_len 0 (length at.block.items)) at.block.items at.f
          c.len-index.result c.f.result c.f.new.self (at.invariant.run begun ran) c.f.ensures));
      long = omega (arith, simp length-append at (ap length c.put.ensures.items), at.invariant.long);
      room = omega (arith, c.put.ensures.room, at.invariant.room);
    }
