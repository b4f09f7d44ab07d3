use Rattle.ga_boxed.proofs.BlockLemmas.{PutSoFar}
use Rattle.ga_boxed.proofs.boxed_array.BoxedArray.zip_ref_by.Given as goal
use Rattle.ga_core.specs.Entries.{CallAtPair}
use Rattle.ga_core.specs.Runs.{ClosureRun}
use Rattle.std.proofs.Common.{take, zip}

abbrev pub invariant-loop-index : goal.invariant-loop-index
invariant-loop-index g l = PutSoFar (ClosureRun (CallAtPair (λ item. item.now) (λ item. item.now) (goal.F-step g))
    l.initial.f) (take l.index (zip l.left l.right)) l.index g.N.Unsigned.USIZE l.block l.f
