use Rattle.generic_array.proofs.FoldLemmas.{FoldLoop-callable, FoldLoop-end, FoldLoop-entry, FoldLoop-last}
use Rattle.generic_array.proofs.FoldLemmas.{FoldLoop-more, TryFoldRun-cons, may_try_fold-at}
use Rattle.generic_array.proofs.functional.walks.try_fold_entries.Goals as goal
use Rattle.ga_core.specs.Entries.{FoldAt}
use Rattle.std.proofs.Common.{◌≡◌, Err, Ok, inl, refl, rules}

pub loop-entry-init : goal.loop-entry-init
loop-entry-init g c =
    let same : c.into_iter-entry-iterator.result ≡ c.args.entries = search rules in
    let asked = c.requires.callable in
    let along = may_try_fold-at asked.0 (goal.F-pre g) (goal.F-step g) c.args.f.now c.args.init asked.1 asked.3 in
    FoldLoop-entry _ same (asked.0, asked.1, asked.2, along)

pub f-requires : goal.f-requires
f-requires g c = FoldLoop-callable c.loop-entry.invariant c.in-Some.entry c.next.new.self c.in-Some.ensures.steps

pub loop-entry-preserved : goal.loop-entry-preserved
loop-entry-preserved g c = FoldLoop-more c.loop-entry.invariant
    (λ entry item b h others r last call. TryFoldRun-cons (FoldAt entry (goal.F-step g)) _ _ (entry item) b h others r
    last (item, refl, call)) c.in-Some.entry c.next.new.self c.f.new.self c.in-Ok.next c.in-Some.ensures.steps
    c.in-Ok.ensures (search rules) (search rules)

pub returns-in-Err : goal.returns-in-Err
returns-in-Err g c = record {
  run = λ entry values. FoldLoop-last c.loop-entry.invariant c.in-Some.entry c.next.new.self (Err c.in-Err.error)
      c.f.new.self c.in-Some.ensures.steps entry values (λ others. inl (c.in-Some.entry, refl, c.in-Err.ensures));
}

pub returns : goal.returns
returns g c = record {
  run = λ entry values. FoldLoop-end c.loop-entry.invariant c.next.new.self (Ok c.loop-entry.answer)
      c.in-None.ensures.steps entry values (refl, refl);
}
