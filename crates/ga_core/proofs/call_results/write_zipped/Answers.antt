use Rattle.ga_core.proofs.CallLemmas.{may_zip-at}
use Rattle.ga_core.proofs.MoveLemmas.{this-here}
use Rattle.ga_core.proofs.NextCalls.{all-in, cut-next, place-in, written-all, written-next}
use Rattle.ga_core.proofs.RunLemmas.{ClosureRun-snoc}
use Rattle.ga_core.proofs.ZipLemmas.{pair-here, pair-in, pairs-behind, pairs-in}
use Rattle.ga_core.proofs.call_results.write_zipped.Goals as goal
use Rattle.std.proofs.Common.{refl, ◌∙◌}

pub f-requires : goal.f-requires
f-requires g c =
    let at = c.loop-index in
    let pair = pair-here at.index at.left at.right (this-here at.index at.left _ _ c.index-left-index.is c.take.ensures.value)
    (this-here at.index at.right _ _ c.index-right-index.is c.take-in-loop-index.ensures.value) in
    let within = pair-in at.left at.right c.loop-index-test.true (at.auto.left ∙ c.requires.left)
    (at.auto.right ∙ c.requires.right) in
    may_zip-at (λ item. item) (λ item. item) _ _ _ _ _ c.requires.callable _ _ _ _ _ (cut-next at.invariant within pair)
    at.invariant.run _ _ refl refl

pub loop-index-preserved : goal.loop-index-preserved
loop-index-preserved g c =
    let at = c.loop-index in
    let pair = pair-here at.index at.left at.right (this-here at.index at.left _ _ c.index-left-index.is c.take.ensures.value)
    (this-here at.index at.right _ _ c.index-right-index.is c.take-in-loop-index.ensures.value) in
    let within = pair-in at.left at.right c.loop-index-test.true (at.auto.left ∙ c.requires.left)
    (at.auto.right ∙ c.requires.right) in
    written-next c.f.result c.f.new.self _
    (pairs-behind at.index at.left at.right c.take.new.dest c.take-in-loop-index.new.dest) at.invariant within
    (place-in c.loop-index-test.true at.auto.slots) pair
    (ClosureRun-snoc _ _ _ _ _ (c.take.result, c.take-in-loop-index.result) _ _ at.invariant.run
    (_, _, refl, refl, c.f.ensures))

pub returns : goal.returns
returns g c = record {
  run = written-all c.loop-index.invariant
      (pairs-in c.args.left.now c.args.right.now c.loop-index-test.false c.requires.left)
      (all-in c.loop-index-test.false c.loop-index.auto.slots);
}
