use Rattle.ga_core_examples.proofs.builder_fills.cumulative_sums.Given as goal
use Rattle.std.proofs.Common.{◌≡◌, ℕ, ◌+◌, ◌<◌, slice_index_or, length, sum, take}

-- the sums so far, place by place
abbrev pub invariant-loop-item : goal.invariant-loop-item
invariant-loop-item g l =
    (l.total ≡ sum (take l.item-index l.items))
    × (length l.sums ≡ l.item-index)
    × ((place : ℕ) → place < l.item-index → slice_index_or l.sums place 0 ≡ sum (take (place + 1) l.items))
