use Rattle.ga_core.proofs.CallLemmas.{may_generate-at}
use Rattle.ga_core.proofs.RunLemmas.{ClosureRun-snoc, below-add_one}
use Rattle.ga_core.proofs.call_results.write_some.Goals as goal
use Rattle.std.proofs.Common.{◌≡◌, ◌+◌, arith}
use Rattle.std.proofs.lemmas.List.{take_more_set}

pub f-requires : goal.f-requires
f-requires g c =
    let begun = c.requires.callable.0 in
    may_generate-at _ _ begun _ c.requires.callable.1 (c.args.first + c.loop-index.index) _ _ (omega arith)
    (c.loop-index.invariant begun c.requires.callable.2)

pub loop-index-preserved : goal.loop-index-preserved
loop-index-preserved g c = λ begun ran.
    let here = c.args.first + c.loop-index.index in
    let longer : here + 1 ≡ c.args.first + (c.loop-index.index + 1) = omega arith in
    rw (← longer, take_more_set c.loop-index.slots here c.f.result (omega arith), below-add_one here)
    (ClosureRun-snoc _ _ _ _ _ _ _ _ (c.loop-index.invariant begun ran) c.f.ensures)
