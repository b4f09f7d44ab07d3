use Rattle.ga_core.proofs.call_results.write_some.Given as goal
use Rattle.ga_core.specs.Runs.{ClosureRun}
use Rattle.std.proofs.Common.{◌+◌, take}
use Rattle.std.specs.List.{range_with_len}

-- the calls so far, after those before, gave what is written
abbrev pub invariant-loop-index : goal.invariant-loop-index
invariant-loop-index g l = (begun : g.row.F.Denot)
    → ClosureRun (goal.F-step g) begun (range_with_len 0 l.initial.first) (take l.initial.first l.initial.slots) l.initial.f
    → ClosureRun (goal.F-step g) begun (range_with_len 0 (l.first + l.index)) (take (l.first + l.index) l.slots) l.f
