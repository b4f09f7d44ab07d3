use Rattle.ga_uses.proofs.matrix.look_at_rows.Given as goal
use Rattle.ga_uses.specs.Matrix.{IsMatrix}
use Rattle.std.proofs.Common.{take}

-- the rows so far have been looked at
abbrev pub invariant-loop-row : goal.invariant-loop-row
invariant-loop-row g l = IsMatrix l.row-index g.C.Unsigned.USIZE (take l.row-index l.rows)
