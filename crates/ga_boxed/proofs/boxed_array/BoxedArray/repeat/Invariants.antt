use Rattle.ga_boxed.proofs.boxed_array.BoxedArray.repeat.Given as goal
use Rattle.std.proofs.Common.{◌≡◌, ◌+◌, length, All}

-- what is built so far are clones, and there is room for the others
abbrev pub invariant-loop-clone : goal.invariant-loop-clone
invariant-loop-clone g l = record {
  long : length l.block.items + 1 ≡ l._clone;
  room : length l.block.items + l.block.room ≡ g.N.Unsigned.USIZE;
  clones : All (g.T.Clone.is_clone l.item) l.block.items;
}
