use Rattle.ga_core.specs.Rows.{rows}
use Rattle.ga_core_examples.proofs.row_writes.reverse_rows.Given as goal
use Rattle.std.proofs.Common.{◌≡◌, ◌++◌, drop, map, reverse, take}

-- the rows so far are reversed, and the others are as they were
abbrev pub invariant-loop-index : goal.invariant-loop-index
invariant-loop-index g l = let shown = rows g.N.Unsigned.USIZE l.fn.slice in
    rows g.N.Unsigned.USIZE l.slice ≡ map reverse (take l.index shown) ++ drop l.index shown
