use Rattle.ga_core.proofs.CallLemmas.{may_try_generate-at}
use Rattle.ga_core.proofs.NextCalls.{run-of_numbers}
use Rattle.ga_core.proofs.RunLemmas.{ClosureRun-good, TryClosureRun-at, TryClosureRun-good, below-add_one}
use Rattle.ga_core.proofs.call_results.try_write_generated.Goals as goal
use Rattle.ga_core.specs.Runs.{ClosureRun}
use Rattle.std.proofs.Common.{◌<◌, Ok, arith, length, map, take}
use Rattle.std.proofs.lemmas.List.{take_more_set}

pub f-requires : goal.f-requires
f-requires g c = may_try_generate-at _ _ _ _ c.requires.callable c.loop-index.index
    (take c.loop-index.index c.loop-index.slots) _ (omega arith) c.loop-index.invariant

pub loop-index-preserved : goal.loop-index-preserved
loop-index-preserved g c =
    rw (take_more_set c.loop-index.slots c.loop-index.index c.in-Ok.item (omega arith), below-add_one)
    (ClosureRun-good _ _ _ _ _ _ _ _ c.loop-index.invariant c.in-Ok.ensures)

pub returns-in-Err : goal.returns-in-Err
returns-in-Err g c =
    let below : c.loop-index.index < length c.args.slots.now = omega (arith, c.loop-index-test.true) in
    record { run = TryClosureRun-at _ _ _ _ _ _ _ _ below c.loop-index.invariant c.in-Err.ensures }

pub returns : goal.returns
returns g c =
    let run = run-of_numbers (λ numbers good. ClosureRun (goal.F-step g) c.args.f.now numbers (map Ok good) c.loop-index.f)
    c.loop-index.slots c.loop-index-test.false c.loop-index.auto.index-end c.loop-index.auto.slots c.loop-index.invariant in
    record { run = TryClosureRun-good _ _ _ _ _ run }
