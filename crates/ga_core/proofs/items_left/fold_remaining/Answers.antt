use Rattle.ga_core.proofs.ActsLemmas.{answer_of_fold}
use Rattle.ga_core.proofs.CallLemmas.{folded-none}
use Rattle.ga_core.proofs.TwoEndedLemmas.{front-none, front-taken, folded-all, folded-callable, folded-next}
use Rattle.ga_core.proofs.items_left.fold_remaining.Goals as goal
use Rattle.std.proofs.Common.{arith}

pub loop-item-init : goal.loop-item-init
loop-item-init g c = folded-none (goal.F-step g) c.args.f.now c.args.init _

pub f-answer-requires : goal.f-answer-requires
f-answer-requires g c = folded-callable c.loop-item.invariant (goal.F-pre g) c.requires.callable _ _
    (front-taken _ _ _ c.in-Some.ensures.step).0

pub loop-more-init : goal.loop-more-init
loop-more-init g c =
    let came = front-taken _ _ _ c.in-Some.ensures.step in
    record { so_far = folded-next c.loop-item.invariant _ _ _ _ came.0 c.f-answer.ensures; fewer = omega arith }

pub f-answer-requires-in-Some-front : goal.f-answer-requires-in-Some-front
f-answer-requires-in-Some-front g c = folded-callable c.loop-more.invariant.so_far (goal.F-pre g) c.requires.callable
    _ _ (front-taken _ _ _ c.in-Some-front.ensures.step).0

pub loop-more-preserved : goal.loop-more-preserved
loop-more-preserved g c =
    let came = front-taken _ _ _ c.in-Some-front.ensures.step in
    record {
      so_far = folded-next c.loop-more.invariant.so_far _ _ _ _ came.0 c.f-answer-in-Some-front.ensures;
      fewer = omega (arith, came.1, c.loop-more.invariant.fewer);
    }

pub returns-in-None : goal.returns-in-None
returns-in-None g c =
    let run = folded-all c.loop-more.invariant.so_far (front-none _ _ c.in-None.ensures.step) in
    record { run = run; acts = λ h acts. answer_of_fold (goal.F-step g) c.args.f.now h acts c.args.init _ _ _ run }

pub loop-item-preserved : goal.loop-item-preserved
loop-item-preserved g c = c.loop-more.invariant.so_far

pub loop-item-smaller : goal.loop-item-smaller
loop-item-smaller g c = omega (arith, (front-taken _ _ _ c.in-Some.ensures.step).1, c.loop-more.invariant.fewer)

pub returns : goal.returns
returns g c =
    let run = folded-all c.loop-item.invariant (front-none _ _ c.in_default.ensures.step) in
    record { run = run; acts = λ h acts. answer_of_fold (goal.F-step g) c.args.f.now h acts c.args.init _ _ _ run }
