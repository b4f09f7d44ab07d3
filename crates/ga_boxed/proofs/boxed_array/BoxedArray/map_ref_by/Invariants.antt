use Rattle.ga_boxed.proofs.BlockLemmas.{PutSoFar}
use Rattle.ga_boxed.proofs.boxed_array.BoxedArray.map_ref_by.Given as goal
use Rattle.ga_core.specs.Entries.{CallAt}
use Rattle.ga_core.specs.Runs.{ClosureRun}
use Rattle.std.proofs.Common.{take}

abbrev pub invariant-loop-item : goal.invariant-loop-item
invariant-loop-item g l = PutSoFar (ClosureRun (CallAt (λ item. item.now) (goal.F-step g)) l.initial.f)
    (take l.item-index l.item-items) l.item-index g.N.Unsigned.USIZE l.block l.f
