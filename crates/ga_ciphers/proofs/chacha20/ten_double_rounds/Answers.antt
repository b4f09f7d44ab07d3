use Rattle.ga_ciphers.proofs.chacha20.ten_double_rounds.Goals as goal
use Rattle.rand_chacha.specs.Block.{column_round, diagonal_round, double_rounds}
use Rattle.std.proofs.Common.{◌≡◌, add-one, ap, arith, ◌∙◌}

pub rounds-init : goal.rounds-init
unfolding double_rounds
rounds-init c = c.into_array-words.ensures

pub rounds-preserved : goal.rounds-preserved
unfolding double_rounds
rounds-preserved c = rw add-one (c.diagonal_round-words.ensures
    ∙ ap diagonal_round (c.column_round.ensures ∙ ap column_round c.rounds.invariant))

pub returns : goal.returns
returns c =
    let done : c.rounds._round ≡ 10 = omega arith in
    c.from_array.ensures ∙ (c.rounds.invariant ∙ ap (λ n. double_rounds n c.args.state) done)
