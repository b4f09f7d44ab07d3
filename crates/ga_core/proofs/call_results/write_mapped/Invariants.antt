use Rattle.ga_core.proofs.NextCalls.{WrittenSoFar}
use Rattle.ga_core.proofs.call_results.write_mapped.Given as goal
use Rattle.ga_core.specs.Runs.{ClosureRun}

-- the calls so far gave what is written, and the other items stand in their slots
abbrev pub invariant-loop-index : goal.invariant-loop-index
invariant-loop-index g l = WrittenSoFar (ClosureRun (goal.F-step g) l.initial.f) l.index l.initial.items l.items l.slots
    l.f
