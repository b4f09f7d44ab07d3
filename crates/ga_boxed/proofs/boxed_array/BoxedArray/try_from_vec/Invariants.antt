use Rattle.ga_boxed.proofs.boxed_array.BoxedArray.try_from_vec.Given as goal
use Rattle.std.proofs.Common.{◌≡◌, ◌++◌, length}
use Rattle.std.specs.Vec.Iter.{into_iter_items, into_iter_len}

-- the items so far were put, and there is room for the others
abbrev pub invariant-loop-item : goal.invariant-loop-item
invariant-loop-item g l = record {
  moved : l.block.items ++ into_iter_items l.item-iterator ≡ l.fn.items.items;
  left : into_iter_len l.item-iterator ≡ length (into_iter_items l.item-iterator);
  room : into_iter_len l.item-iterator ≡ l.block.room;
}
