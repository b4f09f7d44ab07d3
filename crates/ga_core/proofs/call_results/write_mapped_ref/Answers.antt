use Rattle.ga_core.proofs.CallLemmas.{may_map-at}
use Rattle.ga_core.proofs.NextCalls.{all-in, cut-next, place-in, written-all, written-next}
use Rattle.ga_core.proofs.RunLemmas.{ClosureRun-snoc}
use Rattle.ga_core.proofs.call_results.write_mapped_ref.Goals as goal
use Rattle.ga_core.specs.Entries.{CallAt}
use Rattle.ga_core.specs.Runs.{ClosureRun}
use Rattle.std.proofs.Common.{refl}

pub f-requires : goal.f-requires
f-requires g c = may_map-at (λ item. item.now) _ _ _ _ c.requires.callable _ c.index-items-index.result _ _ _
    (cut-next c.loop-index.invariant (place-in c.loop-index-test.true c.requires.len)
    c.index-items-index.is) c.loop-index.invariant.run _ refl

pub loop-index-preserved : goal.loop-index-preserved
loop-index-preserved g c =
    let run = ClosureRun-snoc _ _ _ _ _ c.index-items-index.result _ _ c.loop-index.invariant.run
    (_, refl, c.f.ensures) in
    written-next {Run = ClosureRun (CallAt (λ item. item.now) (goal.F-step g)) c.args.f.now} c.f.result c.f.new.self
    c.args.items.now refl c.loop-index.invariant (place-in c.loop-index-test.true c.requires.len)
    (place-in c.loop-index-test.true c.loop-index.auto.slots) c.index-items-index.is run

pub returns : goal.returns
returns g c = record {
  run = written-all c.loop-index.invariant (all-in c.loop-index-test.false c.requires.len)
      (all-in c.loop-index-test.false c.loop-index.auto.slots);
}
