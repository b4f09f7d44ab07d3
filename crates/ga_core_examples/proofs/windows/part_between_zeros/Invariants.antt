use Rattle.ga_core_examples.proofs.windows.part_between_zeros.Given as goal
use Rattle.std.proofs.Common.{◌≡◌, ◌-◌, ◌<◌, ◌≤◌, ℕ, length, slice_index}

-- only zeros were passed in front
abbrev pub invariant-loop-from : goal.invariant-loop-from
invariant-loop-from g l = (l.from ≤ l.to) × ((k : ℕ) → k < l.from → slice_index l.items k ≡ 0)

abbrev pub decreases-loop-from : goal.decreases-loop-from
decreases-loop-from g l = l.to - l.from

-- only zeros were passed at the end
abbrev pub invariant-loop-to : goal.invariant-loop-to
invariant-loop-to g l = (l.from ≤ l.to) × (l.to ≤ length l.items)
    × ((k : ℕ) → l.to ≤ k → k < length l.items → slice_index l.items k ≡ 0)

abbrev pub decreases-loop-to : goal.decreases-loop-to
decreases-loop-to g l = l.to - l.from
