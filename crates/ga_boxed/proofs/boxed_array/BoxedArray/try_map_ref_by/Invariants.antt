use Rattle.ga_boxed.proofs.BlockLemmas.{PutSoFar}
use Rattle.ga_boxed.proofs.boxed_array.BoxedArray.try_map_ref_by.Given as goal
use Rattle.ga_core.specs.Entries.{CallAt}
use Rattle.ga_core.specs.Runs.{ClosureRun}
use Rattle.std.proofs.Common.{Ok, map, take}

-- the calls so far were good
abbrev pub invariant-loop-item : goal.invariant-loop-item
invariant-loop-item g l =
    PutSoFar (λ passed good. ClosureRun (CallAt (λ item. item.now) (goal.F-step g)) l.initial.f passed (map Ok good))
    (take l.item-index l.item-items) l.item-index g.N.Unsigned.USIZE l.block l.f
