use Rattle.ga_core.proofs.CallLemmas.{ClosureRun-of_items, may_try_map-at}
use Rattle.ga_core.proofs.MoveLemmas.{this-here}
use Rattle.ga_core.proofs.NextCalls.{all-in, cut-next, failed-next, place-in, taken-next, written-all}
use Rattle.ga_core.proofs.RunLemmas.{ClosureRun-good, TryClosureRun-good}
use Rattle.ga_core.proofs.call_results.try_write_mapped.Goals as goal
use Rattle.std.proofs.Common.{refl, take, ◌∙◌}

pub f-requires : goal.f-requires
f-requires g c =
    let run = ClosureRun-of_items _ _ _ _ _ c.loop-index.invariant.run in
    may_try_map-at (λ item. item) _ _ _ _ c.requires.callable _ c.take.result _
    (take c.loop-index.index c.loop-index.slots) _
    (cut-next c.loop-index.invariant (place-in c.loop-index-test.true (c.loop-index.auto.items ∙ c.requires.len))
    (this-here c.loop-index.index c.loop-index.items _ _ c.index-items-index.is c.take.ensures.value)) run _ refl

pub loop-index-preserved : goal.loop-index-preserved
loop-index-preserved g c =
    let run = ClosureRun-good _ _ _ (take c.loop-index.index c.loop-index.slots) _ c.take.result c.in-Ok.item _
    c.loop-index.invariant.run c.in-Ok.ensures in
    taken-next c.in-Ok.item c.f.new.self c.take.new.dest c.loop-index.invariant
    (place-in c.loop-index-test.true (c.loop-index.auto.items ∙ c.requires.len))
    (place-in c.loop-index-test.true c.loop-index.auto.slots) (this-here c.loop-index.index c.loop-index.items _ _ c.index-items-index.is c.take.ensures.value) run

pub returns-in-Err : goal.returns-in-Err
returns-in-Err g c = record {
  run = failed-next (goal.F-step g) c.args.f.now c.take.result c.in-Err.error c.f.new.self c.loop-index.invariant
      (place-in c.loop-index-test.true (c.loop-index.auto.items ∙ c.requires.len))
      (this-here c.loop-index.index c.loop-index.items _ _ c.index-items-index.is c.take.ensures.value) c.in-Err.ensures;
}

pub returns : goal.returns
returns g c =
    let run = written-all c.loop-index.invariant (all-in c.loop-index-test.false c.requires.len)
    (all-in c.loop-index-test.false c.loop-index.auto.slots) in
    record { run = TryClosureRun-good _ _ _ _ _ run }
