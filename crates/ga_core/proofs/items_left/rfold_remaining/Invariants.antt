use Rattle.ga_core.proofs.CallLemmas.{FoldedSoFar}
use Rattle.ga_core.proofs.items_left.rfold_remaining.Given as goal
use Rattle.std.proofs.Common.{◌≤◌, length, reverse}

-- the calls so far led to the answer and the closure of now
abbrev pub invariant-loop-item : goal.invariant-loop-item
invariant-loop-item g l = FoldedSoFar (goal.F-step g) l.fn.f l.fn.init (reverse (g.I.TwoEnded.items l.fn.left))
    (reverse (g.I.TwoEnded.items l.left)) l.f l.answer

-- the same, and no more are left than at first
abbrev pub invariant-loop-more : goal.invariant-loop-more
invariant-loop-more g l = record {
  so_far : FoldedSoFar (goal.F-step g) l.fn.f l.fn.init (reverse (g.I.TwoEnded.items l.fn.left))
      (reverse (g.I.TwoEnded.items l.left)) l.f l.answer;
  fewer : length (g.I.TwoEnded.items l.left) ≤ length (g.I.TwoEnded.items l.initial.left);
}

-- the items that are left
abbrev pub decreases-loop-item : goal.decreases-loop-item
decreases-loop-item g l = length (g.I.TwoEnded.items l.left)
