use Rattle.ga_core_examples.proofs.builders.touch.Given as goal
use Rattle.std.proofs.Common.{◌≡◌, ◌≤◌, ◌==◌, filter, length, not, take}

-- what is kept of the keys so far
abbrev pub invariant-loop-other : goal.invariant-loop-other
invariant-loop-other g l =
    (l.kept ≡ filter (λ other. not (other == l.key)) (take l.other-index l.items)) × (length l.kept ≤ l.other-index)
