use Rattle.ga_boxed.proofs.boxed_array.BoxedArray.into_vec.Given as goal
use Rattle.std.proofs.Common.{◌≡◌, ◌+◌, ◌++◌, ◌≤◌, length, vec_capacity, vec_len}

-- the items so far and those that are left are the array's, and there is room for these
abbrev pub invariant-loop-moved : goal.invariant-loop-moved
invariant-loop-moved g l = record {
  moved : l.vector.items ++ l.block.items ≡ l.fn.self;
  left : l._moved + length l.block.items ≡ g.N.Unsigned.USIZE;
  room : vec_len l.vector + length l.block.items ≤ vec_capacity l.vector;
}
