use Rattle.ga_core.specs.Entries.{FoldAt}
use Rattle.ga_core.specs.Runs.{FoldRun}
use Rattle.generic_array.proofs.FoldLemmas.{FoldLoop}
use Rattle.generic_array.proofs.functional.walks.fold_in_blocks.Given as goal
use Rattle.std.proofs.Common.{◌≤◌}
use Rattle.std.specs.Iterator.{size}

abbrev pub invariant-loop-entry : goal.invariant-loop-entry
invariant-loop-entry g l =
    let I = g.I.Iterator in
    FoldLoop g.row.T.Denot I.can_next I.next_gives I.remaining (goal.F-pre g) (goal.F-step g)
    (λ entry. FoldRun (FoldAt entry (goal.F-step g))) l.fn.entries l.fn.f l.fn.init l.entries l.f l.answer

-- the same, and no more are left than at first
abbrev pub invariant-loop-more : goal.invariant-loop-more
invariant-loop-more g l =
    let I = g.I.Iterator in
    FoldLoop g.row.T.Denot I.can_next I.next_gives I.remaining (goal.F-pre g) (goal.F-step g)
    (λ entry. FoldRun (FoldAt entry (goal.F-step g))) l.fn.entries l.fn.f l.fn.init l.entries l.f l.answer
    × (size (I.remaining l.entries) ≤ size (I.remaining l.initial.entries))
