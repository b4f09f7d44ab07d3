use Rattle.ga_core.proofs.NextCalls.{WrittenSoFar}
use Rattle.ga_core.proofs.call_results.write_mapped_ref.Given as goal
use Rattle.ga_core.specs.Entries.{CallAt}
use Rattle.ga_core.specs.Runs.{ClosureRun}

-- the calls so far gave what is written
abbrev pub invariant-loop-index : goal.invariant-loop-index
invariant-loop-index g l = WrittenSoFar (ClosureRun (CallAt (λ item. item.now) (goal.F-step g)) l.initial.f) l.index
    l.items l.items l.slots l.f
