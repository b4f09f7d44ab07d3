use Rattle.ga_rows.proofs.DecimalLemmas.{decimal-three_digits, decimal-two_digits}
use Rattle.ga_rows.proofs.buffer.Piece.push_below_1000.Goals as goal
use Rattle.std.proofs.Common.{append_assoc, arith}

pub returns-then-number-lt100-clause-text : goal.returns-then-number-lt100-clause-text
returns-then-number-lt100-clause-text c =
    let two = decimal-two_digits c.args.number (omega arith) (omega arith) in
    rw (two, c.push_digit-then-number-lt100-2.ensures, c.push_digit-then-number-lt100.ensures) (simp append_assoc)

pub returns-else-number-lt100-clause-text : goal.returns-else-number-lt100-clause-text
returns-else-number-lt100-clause-text c =
    let three = decimal-three_digits c.args.number (omega arith) (omega arith) in
    rw (three, c.push_digit-else-number-lt100-3.ensures, c.push_digit-else-number-lt100-2.ensures)
    (rw c.push_digit-else-number-lt100.ensures (simp append_assoc))
