use Rattle.generic_array.proofs.sequence.shapes.inline.GenericArrayFlatten.flatten.Given as goal
use Rattle.std.proofs.Common.{◌≡◌, ◌++◌, ◌+◌, ◌*◌, length, map}
use Rattle.std.specs.List.{All, flat_map}

-- The items joined and the rows that are left, joined, are all rows joined. Where the rows that are left have their
-- width, all have. So many slots are left.
abbrev pub invariant-loop-row : goal.invariant-loop-row
invariant-loop-row g l = record {
  can : (goal.iterator-loop-row g).can_next l.row-iterator;
  ends : (goal.iterator-loop-row g).is_finite l.row-iterator;
  same : l.joined ++ flat_map (λ row. row) (map g.I.AsSlice.items l.row-iterator)
      ≡ flat_map (λ row. row) (map g.I.AsSlice.items l.fn.self);
  wide : All (λ row. length row ≡ g.I.Row.WIDTH) (map g.I.AsSlice.items l.row-iterator)
      → All (λ row. length row ≡ g.I.Row.WIDTH) (map g.I.AsSlice.items l.fn.self);
  long : length l.joined + length l.row-iterator * g.I.Row.WIDTH ≡ g.M.Unsigned.USIZE;
}
