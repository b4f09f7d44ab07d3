use Rattle.ga_core.proofs.CallLemmas.{may_try_map-at}
use Rattle.ga_core.proofs.NextCalls.{all-in, cut-next, failed-next, place-in, written-all, written-next}
use Rattle.ga_core.proofs.RunLemmas.{ClosureRun-good, TryClosureRun-good}
use Rattle.ga_core.proofs.call_results.try_write_mapped_ref.Goals as goal
use Rattle.ga_core.specs.Entries.{CallAt}
use Rattle.ga_core.specs.Runs.{ClosureRun}
use Rattle.std.proofs.Common.{Ok, map, refl, take}

pub f-requires : goal.f-requires
f-requires g c = may_try_map-at (λ item. item.now) _ _ _ _ c.requires.callable _ c.index-items-index.result _
    (take c.loop-index.index c.loop-index.slots) _
    (cut-next c.loop-index.invariant (place-in c.loop-index-test.true c.requires.len)
    c.index-items-index.is) c.loop-index.invariant.run _ refl

pub loop-index-preserved : goal.loop-index-preserved
loop-index-preserved g c =
    let run = ClosureRun-good _ _ _ (take c.loop-index.index c.loop-index.slots) _ c.index-items-index.result
    c.in-Ok.item _ c.loop-index.invariant.run (_, refl, c.in-Ok.ensures) in
    written-next {Run = λ items good. ClosureRun (CallAt (λ item. item.now) (goal.F-step g)) c.args.f.now items
    (map Ok good)} c.in-Ok.item c.f.new.self c.args.items.now refl c.loop-index.invariant (place-in c.loop-index-test.true c.requires.len)
    (place-in c.loop-index-test.true c.loop-index.auto.slots) c.index-items-index.is run

pub returns-in-Err : goal.returns-in-Err
returns-in-Err g c = record {
  run = failed-next (CallAt (λ item. item.now) (goal.F-step g)) c.args.f.now c.index-items-index.result c.in-Err.error
      c.f.new.self c.loop-index.invariant (place-in c.loop-index-test.true c.requires.len) c.index-items-index.is
      (_, refl, c.in-Err.ensures);
}

pub returns : goal.returns
returns g c =
    let run = written-all c.loop-index.invariant (all-in c.loop-index-test.false c.requires.len)
    (all-in c.loop-index-test.false c.loop-index.auto.slots) in
    record { run = TryClosureRun-good _ _ _ _ _ run }
