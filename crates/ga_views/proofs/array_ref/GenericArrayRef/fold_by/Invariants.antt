use Rattle.ga_views.proofs.CallLemmas.{FoldedSoFar}
use Rattle.ga_views.proofs.array_ref.GenericArrayRef.fold_by.Given as goal
use Rattle.ga_views.specs.Entries.{FoldAt}
use Rattle.ga_views.specs.Views.{items_of_view}
use Rattle.std.proofs.Common.{length}

-- the calls so far led to the answer and the closure of now
abbrev pub invariant-loop-left : goal.invariant-loop-left
invariant-loop-left g l =
    FoldedSoFar (FoldAt (λ item. item.now) (goal.F-step g)) l.fn.f l.fn.init (items_of_view l.fn.self) l.left l.f l.answer

-- the items that are left
abbrev pub decreases-loop-left : goal.decreases-loop-left
decreases-loop-left g l = length l.left
