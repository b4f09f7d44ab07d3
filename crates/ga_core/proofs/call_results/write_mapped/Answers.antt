use Rattle.ga_core.proofs.CallLemmas.{ClosureRun-of_items, may_map-at}
use Rattle.ga_core.proofs.MoveLemmas.{this-here}
use Rattle.ga_core.proofs.NextCalls.{all-in, cut-next, place-in, taken-next, written-all}
use Rattle.ga_core.proofs.RunLemmas.{ClosureRun-snoc}
use Rattle.ga_core.proofs.call_results.write_mapped.Goals as goal
use Rattle.std.proofs.Common.{refl, ◌∙◌}

pub f-requires : goal.f-requires
f-requires g c =
    let run = ClosureRun-of_items _ _ _ _ _ c.loop-index.invariant.run in
    may_map-at (λ item. item) _ _ _ _ c.requires.callable _ c.take.result _ _ _
    (cut-next c.loop-index.invariant (place-in c.loop-index-test.true (c.loop-index.auto.items ∙ c.requires.len))
    (this-here c.loop-index.index c.loop-index.items _ _ c.index-items-index.is c.take.ensures.value)) run _ refl

pub loop-index-preserved : goal.loop-index-preserved
loop-index-preserved g c =
    let run = ClosureRun-snoc _ _ _ _ _ c.take.result _ _ c.loop-index.invariant.run c.f.ensures in
    taken-next c.f.result c.f.new.self c.take.new.dest c.loop-index.invariant
    (place-in c.loop-index-test.true (c.loop-index.auto.items ∙ c.requires.len))
    (place-in c.loop-index-test.true c.loop-index.auto.slots) (this-here c.loop-index.index c.loop-index.items _ _ c.index-items-index.is c.take.ensures.value) run

pub returns : goal.returns
returns g c = record {
  run = written-all c.loop-index.invariant (all-in c.loop-index-test.false c.requires.len)
      (all-in c.loop-index-test.false c.loop-index.auto.slots);
}
