use Rattle.generic_array.proofs.sequence.shapes.inline.GenericArrayUnflattenGenericArrayGenericArray.unflatten.Given as goal
use Rattle.generic_array.specs.Rows.{row_at}
use Rattle.std.proofs.Common.{◌≡◌, ◌*◌, drop, length, map}
use Rattle.std.specs.List.{range_with_len}

-- The rows so far are the first of the items', and the items behind them are left.
abbrev pub invariant-loop-row : goal.invariant-loop-row
invariant-loop-row g l = record {
  count : length l.rows ≡ l._row;
  made : l.rows ≡ map (row_at g.W.Unsigned.USIZE l.fn.self) (range_with_len 0 (length l.rows));
  left : l.items ≡ drop (length l.rows * g.W.Unsigned.USIZE) l.fn.self;
}
