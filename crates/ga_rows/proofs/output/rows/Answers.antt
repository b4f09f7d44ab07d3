use Rattle.ga_rows.proofs.output.rows.Goals as goal

pub returns-in-W1 : goal.returns-in-W1
returns-in-W1 g c =
    let told = c.rows_of.ensures in
    record { text = rw c.in-W1.is told.text; rest = rw c.in-W1.is told.rest; empty = told.empty }

pub returns-in-W2 : goal.returns-in-W2
returns-in-W2 g c =
    let told = c.rows_of-in-W2.ensures in
    record { text = rw c.in-W2.is told.text; rest = rw c.in-W2.is told.rest; empty = told.empty }

pub returns-in-W4 : goal.returns-in-W4
returns-in-W4 g c =
    let told = c.rows_of-in-W4.ensures in
    record { text = rw c.in-W4.is told.text; rest = rw c.in-W4.is told.rest; empty = told.empty }

pub returns-in-W8 : goal.returns-in-W8
returns-in-W8 g c =
    let told = c.rows_of-in-W8.ensures in
    record { text = rw c.in-W8.is told.text; rest = rw c.in-W8.is told.rest; empty = told.empty }

pub returns-in-W16 : goal.returns-in-W16
returns-in-W16 g c =
    let told = c.rows_of-in-W16.ensures in
    record { text = rw c.in-W16.is told.text; rest = rw c.in-W16.is told.rest; empty = told.empty }
