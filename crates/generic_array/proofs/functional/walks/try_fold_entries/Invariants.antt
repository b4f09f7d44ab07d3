use Rattle.ga_core.specs.Runs.{TryFoldRun, good_step}
use Rattle.ga_core.specs.Entries.{FoldAt}
use Rattle.generic_array.proofs.FoldLemmas.{FoldLoop}
use Rattle.generic_array.proofs.functional.walks.try_fold_entries.Given as goal

abbrev pub invariant-loop-entry : goal.invariant-loop-entry
invariant-loop-entry g l =
    let I = g.I.Iterator in
    FoldLoop g.row.T.Denot I.can_next I.next_gives I.remaining (goal.F-pre g) (good_step (goal.F-step g))
    (λ entry. TryFoldRun (FoldAt entry (goal.F-step g))) l.fn.entries l.initial.f l.initial.answer l.entry-iterator l.f
    l.answer
