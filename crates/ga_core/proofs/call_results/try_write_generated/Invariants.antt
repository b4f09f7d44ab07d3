use Rattle.ga_core.proofs.call_results.try_write_generated.Given as goal
use Rattle.ga_core.specs.Runs.{ClosureRun}
use Rattle.std.proofs.Common.{Ok, map, take}
use Rattle.std.specs.List.{range_with_len}

-- the calls so far were good, and gave what is written
abbrev pub invariant-loop-index : goal.invariant-loop-index
invariant-loop-index g l = ClosureRun (goal.F-step g) l.initial.f (range_with_len 0 l.index)
    (map Ok (take l.index l.slots)) l.f
