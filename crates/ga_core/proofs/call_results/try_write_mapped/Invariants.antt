use Rattle.ga_core.proofs.NextCalls.{WrittenSoFar}
use Rattle.ga_core.proofs.call_results.try_write_mapped.Given as goal
use Rattle.ga_core.specs.Runs.{ClosureRun}
use Rattle.std.proofs.Common.{Ok, map}

-- the calls so far were good, and gave what is written, and the other items stand in their slots
abbrev pub invariant-loop-index : goal.invariant-loop-index
invariant-loop-index g l = WrittenSoFar (λ items good. ClosureRun (goal.F-step g) l.initial.f items (map Ok good))
    l.index l.initial.items l.items l.slots l.f
