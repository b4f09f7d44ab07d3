use Rattle.ga_core.proofs.CallLemmas.{may_fold-at}
use Rattle.generic_array.proofs.FoldLemmas.{FoldLoop-callable, FoldLoop-end, FoldLoop-entry, FoldLoop-more}
use Rattle.generic_array.proofs.functional.walks.fold_in_blocks.Goals as goal
use Rattle.std.proofs.Common.{arith, refl}

pub loop-entry-init : goal.loop-entry-init
loop-entry-init g c =
    let asked = c.requires.callable in
    FoldLoop-entry _ refl (asked.0, asked.1, asked.2, may_fold-at asked.0 _ _ _ _ _ asked.3)

pub f-answer-requires : goal.f-answer-requires
f-answer-requires g c = FoldLoop-callable c.loop-entry.invariant c.in-Some.entry c.next.new.self
    c.in-Some.ensures.steps

pub loop-more-init : goal.loop-more-init
loop-more-init g c =
    let on = c.in-Some.ensures.goes.on c.loop-entry.invariant.ends in (
      FoldLoop-more c.loop-entry.invariant
          (λ entry item b h others r last call run. ((h, b), (item, refl, call), run)) c.in-Some.entry c.next.new.self
          c.f-answer.new.self c.f-answer.result c.in-Some.ensures.steps c.f-answer.ensures on.0 on.1,
      omega arith,
    )

pub f-answer-requires-in-Some-next : goal.f-answer-requires-in-Some-next
f-answer-requires-in-Some-next g c = FoldLoop-callable c.loop-more.invariant.0 c.in-Some-next.entry
    c.next-in-loop-more.new.self c.in-Some-next.ensures.steps

pub loop-more-preserved : goal.loop-more-preserved
loop-more-preserved g c =
    let so_far = c.loop-more.invariant in
    let on = c.in-Some-next.ensures.goes.on so_far.0.ends in (
      FoldLoop-more so_far.0 (λ entry item b h others r last call run. ((h, b), (item, refl, call), run))
          c.in-Some-next.entry c.next-in-loop-more.new.self c.f-answer-in-Some-next.new.self
          c.f-answer-in-Some-next.result c.in-Some-next.ensures.steps c.f-answer-in-Some-next.ensures on.0 on.1,
      omega (arith, on.2, so_far.1),
    )

pub loop-entry-smaller : goal.loop-entry-smaller
loop-entry-smaller g c =
    omega (arith, (c.in-Some.ensures.goes.on c.loop-entry.invariant.ends).2, c.loop-more.invariant.1)

pub loop-entry-preserved : goal.loop-entry-preserved
loop-entry-preserved g c = c.loop-more.invariant.0

pub returns-in-None : goal.returns-in-None
returns-in-None g c = record {
  run = λ entry values. FoldLoop-end c.loop-more.invariant.0 c.next-in-loop-more.new.self c.loop-more.answer
      c.in-None.ensures.steps entry values refl;
}

pub returns : goal.returns
returns g c = record {
  run = λ entry values. FoldLoop-end c.loop-entry.invariant c.next.new.self c.loop-entry.answer
      c.in_default.ensures.steps entry values refl;
}
