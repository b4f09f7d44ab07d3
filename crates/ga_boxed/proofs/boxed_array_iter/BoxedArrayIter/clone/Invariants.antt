use Rattle.ga_boxed.proofs.boxed_array_iter.BoxedArrayIter.clone.Given as goal
use Rattle.std.proofs.Common.{◌≡◌, ◌+◌, length, take}
use Rattle.std.specs.List.{AllZip}

-- what is made so far are clones of the items so far, and there is room for the others
abbrev pub invariant-loop-item : goal.invariant-loop-item
invariant-loop-item g l = record {
  long : length l.clones.items ≡ l.item-index;
  room : l.item-index + l.clones.room ≡ length l.item-items;
  clones : AllZip g.T.Clone.is_clone (take l.item-index l.item-items) l.clones.items;
}
