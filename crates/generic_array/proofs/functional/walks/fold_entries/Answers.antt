use Rattle.ga_core.proofs.CallLemmas.{may_fold-at}
use Rattle.generic_array.proofs.FoldLemmas.{FoldLoop-callable, FoldLoop-end, FoldLoop-entry, FoldLoop-more}
use Rattle.generic_array.proofs.functional.walks.fold_entries.Goals as goal
use Rattle.std.proofs.Common.{◌≡◌, refl, rules}

pub loop-entry-init : goal.loop-entry-init
loop-entry-init g c =
    let same : c.into_iter-entry-iterator.result ≡ c.args.entries = search rules in
    let asked = c.requires.callable in
    FoldLoop-entry _ same (asked.0, asked.1, asked.2, may_fold-at asked.0 _ _ _ _ _ asked.3)

pub f-answer-requires : goal.f-answer-requires
f-answer-requires g c = FoldLoop-callable c.loop-entry.invariant c.in-Some.entry c.next.new.self
    c.in-Some.ensures.steps

pub loop-entry-preserved : goal.loop-entry-preserved
loop-entry-preserved g c = FoldLoop-more c.loop-entry.invariant
    (λ entry item b h others r last call run. ((h, b), (item, refl, call), run)) c.in-Some.entry c.next.new.self
    c.f-answer.new.self c.f-answer.result c.in-Some.ensures.steps c.f-answer.ensures (search rules) (search rules)

pub returns : goal.returns
returns g c = record {
  run = λ entry values. FoldLoop-end c.loop-entry.invariant c.next.new.self c.loop-entry.answer c.in-None.ensures.steps
      entry values refl;
}
