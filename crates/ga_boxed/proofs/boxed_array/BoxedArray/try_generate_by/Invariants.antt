use Rattle.ga_boxed.proofs.BlockLemmas.{PutSoFar}
use Rattle.ga_boxed.proofs.boxed_array.BoxedArray.try_generate_by.Given as goal
use Rattle.ga_core.specs.Runs.{ClosureRun}
use Rattle.std.proofs.Common.{Ok, map}
use Rattle.std.specs.List.{range_with_len}

-- the calls so far were good
abbrev pub invariant-loop-index : goal.invariant-loop-index
invariant-loop-index g l = PutSoFar (λ passed good. ClosureRun (goal.F-step g) l.initial.f passed (map Ok good))
    (range_with_len 0 l.index) l.index g.N.Unsigned.USIZE l.block l.f
