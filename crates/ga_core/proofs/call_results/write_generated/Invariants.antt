use Rattle.ga_core.proofs.call_results.write_generated.Given as goal
use Rattle.ga_core.specs.Runs.{ClosureRun}
use Rattle.std.proofs.Common.{◌≤◌, ◌-◌, length, take}
use Rattle.std.specs.List.{range_with_len}

-- the calls so far gave what is written
abbrev pub invariant-loop-slots : goal.invariant-loop-slots
invariant-loop-slots g l = record {
  within : l.done ≤ length l.slots;
  ran : ClosureRun (goal.F-step g) l.initial.f (range_with_len 0 l.done) (take l.done l.slots) l.f;
}

-- the slots that are left
abbrev pub decreases-loop-slots : goal.decreases-loop-slots
decreases-loop-slots g l = length l.slots - l.done
