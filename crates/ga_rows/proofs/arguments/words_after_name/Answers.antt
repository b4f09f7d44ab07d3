use Rattle.ga_rows.proofs.arguments.words_after_name.Goals as goal
use Rattle.std.proofs.Common.{◌∙◌}

pub returns-in-Ok-clause-ok : goal.returns-in-Ok-clause-ok
returns-in-Ok-clause-ok g c =
    let kept = c.in-Ok.ensures.runs tt in
    let all = c.skip.ensures.runs kept.0 kept.0.seen kept.1 in
    (all.0, all.1, all.2.0 ∙ kept.2, kept.3.0 ∙ all.2.2)
