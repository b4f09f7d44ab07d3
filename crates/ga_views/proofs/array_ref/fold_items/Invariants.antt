use Rattle.ga_views.proofs.array_ref.fold_items.Given as goal
use Rattle.ga_views.specs.Entries.{FoldAt}
use Rattle.ga_views.specs.Runs.{FoldRun}
use Rattle.std.proofs.Common.{take}

-- the calls at the items passed led to the answer and the closure of now
abbrev pub invariant-loop-item : goal.invariant-loop-item
invariant-loop-item g l =
    FoldRun (FoldAt (λ item. item.now) (goal.F-step g)) l.initial.f l.initial.answer (take l.item-index l.items) l.answer
    l.f
