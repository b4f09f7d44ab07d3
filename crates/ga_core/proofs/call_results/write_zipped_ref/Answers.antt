use Rattle.ga_core.proofs.CallLemmas.{may_zip-at}
use Rattle.ga_core.proofs.NextCalls.{all-in, cut-next, place-in, written-all, written-next}
use Rattle.ga_core.proofs.RunLemmas.{ClosureRun-snoc}
use Rattle.ga_core.proofs.ZipLemmas.{pair-here, pair-in, pairs-in}
use Rattle.ga_core.proofs.call_results.write_zipped_ref.Goals as goal
use Rattle.ga_core.specs.Entries.{CallAtPair}
use Rattle.ga_core.specs.Runs.{ClosureRun}
use Rattle.std.proofs.Common.{refl}

pub f-requires : goal.f-requires
f-requires g c =
    let at = c.loop-index in
    may_zip-at (λ item. item.now) (λ item. item.now) _ _ _ _ _ c.requires.callable _
    (c.index-left-index.result, c.index-right-index.result) _ _ _
    (cut-next at.invariant (pair-in _ _ c.loop-index-test.true c.requires.left c.requires.right)
    (pair-here at.index _ _ c.index-left-index.is c.index-right-index.is)) at.invariant.run _ _ refl refl

pub loop-index-preserved : goal.loop-index-preserved
loop-index-preserved g c =
    let at = c.loop-index in
    written-next {Run = ClosureRun (CallAtPair (λ item. item.now) (λ item. item.now) (goal.F-step g)) c.args.f.now}
    c.f.result c.f.new.self _ refl at.invariant (pair-in _ _ c.loop-index-test.true c.requires.left c.requires.right)
    (place-in c.loop-index-test.true at.auto.slots)
    (pair-here at.index _ _ c.index-left-index.is c.index-right-index.is)
    (ClosureRun-snoc _ _ _ _ _ (c.index-left-index.result, c.index-right-index.result) _ _ at.invariant.run
    (_, _, refl, refl, c.f.ensures))

pub returns : goal.returns
returns g c = record {
  run = written-all c.loop-index.invariant
      (pairs-in c.args.left.now c.args.right.now c.loop-index-test.false c.requires.left)
      (all-in c.loop-index-test.false c.loop-index.auto.slots);
}
