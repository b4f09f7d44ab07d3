use Rattle.ga_rows.proofs.TableLemmas.{table-at}
use Rattle.ga_rows.proofs.buffer.decimal.digits_of.Goals as goal
use Rattle.ga_rows.specs.declared.buffer.decimal.TheConstants.{TEXTS}
use Rattle.std.proofs.Common.{[], ap, arith, decimal, get_or, take, ◌∙◌}

pub returns-clause-digits : goal.returns-clause-digits
returns-clause-digits c =
    let entry = table-at c.from-place.result (omega arith) in
    ap (λ count. take count (get_or TEXTS c.from-place.result [])) c.from.ensures
    ∙ (entry.0 ∙ ap decimal c.from-place.ensures)

pub returns-clause-count : goal.returns-clause-count
returns-clause-count c =
    let entry = table-at c.from-place.result (omega arith) in
    omega arith
