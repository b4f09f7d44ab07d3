use Rattle.ga_boxed.proofs.boxed_array.builds.put_some.Given as goal
use Rattle.ga_core.specs.Runs.{ClosureRun}
use Rattle.std.proofs.Common.{◌≡◌, ◌+◌, length}
use Rattle.std.specs.List.{range_with_len}

-- the calls so far, after those before, gave the items, and there is room for the others
abbrev pub invariant-loop-put : goal.invariant-loop-put
invariant-loop-put g l = record {
  run : (begun : g.row.F.Denot)
      → ClosureRun (goal.F-step g) begun (range_with_len 0 (length l.initial.block.items)) l.initial.block.items l.initial.f
      → ClosureRun (goal.F-step g) begun (range_with_len 0 (length l.block.items)) l.block.items l.f;
  long : length l.block.items ≡ length l.initial.block.items + l._put;
  room : l.block.room + l._put ≡ l.initial.block.room;
}
