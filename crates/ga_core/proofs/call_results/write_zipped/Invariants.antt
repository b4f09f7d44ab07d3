use Rattle.ga_core.proofs.NextCalls.{WrittenSoFar}
use Rattle.ga_core.proofs.call_results.write_zipped.Given as goal
use Rattle.ga_core.specs.Runs.{ClosureRun}
use Rattle.ga_core.specs.Entries.{CallAtPair}
use Rattle.std.specs.List.{zip}

-- the calls so far gave what is written, and the other items stand in their slots
abbrev pub invariant-loop-index : goal.invariant-loop-index
invariant-loop-index g l = WrittenSoFar (ClosureRun (CallAtPair (λ item. item) (λ item. item) (goal.F-step g)) l.initial.f)
    l.index (zip l.initial.left l.initial.right) (zip l.left l.right) l.slots l.f
