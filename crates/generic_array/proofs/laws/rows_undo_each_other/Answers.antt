use Rattle.generic_array.proofs.ShapeLemmas.{joined-of_rows, rows-of_joined}
use Rattle.generic_array.proofs.laws.rows_undo_each_other.Goals as goal

pub returns-clause-rows : goal.returns-clause-rows
returns-clause-rows g c = λ width all some. rows-of_joined width some all

pub returns-clause-items : goal.returns-clause-items
returns-clause-items g c = λ width count items some. joined-of_rows width some count items
