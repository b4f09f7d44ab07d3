use Rattle.ga_core_examples.proofs.slices.each_has_its_length.Given as goal
use Rattle.std.proofs.Common.{◌≡◌, ℕ, ◌<◌, [], slice_index_or, length}

abbrev pub invariant-loop-block : goal.invariant-loop-block
invariant-loop-block g l =
    (place : ℕ) → place < l.block-index → length (slice_index_or l.blocks place []) ≡ g.N.Unsigned.USIZE
