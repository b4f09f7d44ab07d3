use Rattle.ga_core_examples.proofs.builder_fills.cumulative_sums.Goals as goal
use Rattle.std.proofs.Common.{◌+◌, rules, sum, take}
use Rattle.std.proofs.lemmas.List.FromFn.{fill_by_all}

pub returns : goal.returns
returns g c = fill_by_all (λ index. sum (take (index + 1) c.args.window.now)) _ _ 0 (search rules) (search rules)
