use Rattle.std.proofs.Common.{◌≡◌, ◌++◌, length}
use Rattle.std.specs.List.{flat_map}
use Rattle.std.specs.Slice.Iter.{iter_rest}
use Rattle.generic_array.proofs.sequence.flat_iter.FlatIterIterator.next.Given as goal

abbrev pub invariant-loop-item : goal.invariant-loop-item
invariant-loop-item g l = iter_rest l.self-inside.row
    ++ flat_map (λ row. row) (iter_rest l.self-inside.rows) ≡ l.fn.self

abbrev pub decreases-loop-item : goal.decreases-loop-item
decreases-loop-item g l = length (iter_rest l.self-inside.rows)
