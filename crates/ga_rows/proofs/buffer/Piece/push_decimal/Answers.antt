use Rattle.ga_rows.proofs.buffer.Piece.push_decimal.Goals as goal
use Rattle.std.proofs.Common.{append_assoc, arith}
use Rattle.std.proofs.lemmas.Fmt.{decimal_step}

pub returns-else-number-lt1000-clause-text : goal.returns-else-number-lt1000-clause-text
returns-else-number-lt1000-clause-text c =
    let step = decimal_step c.args.number (omega arith) (omega arith) in
    rw (step, c.push_digit.ensures, c.push_below_1000-else-number-lt1000.ensures.text) (append_assoc c.args.self.now _ _)
