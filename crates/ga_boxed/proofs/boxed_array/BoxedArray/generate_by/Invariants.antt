use Rattle.ga_boxed.proofs.boxed_array.BoxedArray.generate_by.Given as goal
use Rattle.ga_core.specs.Runs.{ClosureRun}
use Rattle.std.proofs.Common.{◌≡◌, ◌+◌, length}
use Rattle.std.specs.List.{range_with_len}

-- the calls so far gave the items, and there is room for the others
abbrev pub invariant-loop-block : goal.invariant-loop-block
invariant-loop-block g l = record {
  run : ClosureRun (goal.F-step g) l.initial.f (range_with_len 0 (length l.block.items)) l.block.items l.f;
  room : length l.block.items + l.block.room ≡ g.N.Unsigned.USIZE;
}

-- the room that is left
abbrev pub decreases-loop-block : goal.decreases-loop-block
decreases-loop-block g l = l.block.room
