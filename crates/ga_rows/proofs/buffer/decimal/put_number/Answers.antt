use Rattle.ga_rows.proofs.TextLemmas.{take-put}
use Rattle.ga_rows.proofs.buffer.decimal.put_number.Goals as goal
use Rattle.std.proofs.Common.{◌++◌, ap, arith, take, ◌∙◌}

pub returns-clause-text : goal.returns-clause-text
returns-clause-text c =
    let front = take c.args.start c.args.text.now in
    take-put c.args.start c.digits_of-count.result.1 c.args.text.now c.copy_from_slice.new.self _ (omega arith)
    (omega arith)
    ∙ ap (λ put. front ++ put) (ap (take c.digits_of-count.result.1) c.copy_from_slice.ensures.after
    ∙ c.digits_of-count.ensures.digits)
