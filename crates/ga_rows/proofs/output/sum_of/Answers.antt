use Rattle.ga_rows.proofs.SumLemmas.{MayFold-bound, FoldRun-bound}
use Rattle.ga_rows.proofs.output.sum_of.Goals as goal
use Rattle.generic_array.specs.Views.{items_of_view, length-items_of_view}
use Rattle.std.proofs.Common.{◌≡◌, arith, rules, sum}

-- sixteen bytes at most add up to what the closure may be called at
pub total_by-requires : goal.total_by-requires
total_by-requires g c = record {
  callable = MayFold-bound (λ byte. byte.now) _ (λ f a item b next call. search rules) _ g.N.Unsigned.USIZE
      (λ f a item few. search rules) _ _ (length-items_of_view c.args.row);
}

-- and to less than five digits
pub returns-clause-small : goal.returns-clause-small
returns-clause-small g c =
    let small = FoldRun-bound (λ byte. byte.now) _
    (λ f a item b next call. search rules) _ 0 _ _ _ c.total_by.ensures.run in
    let value : c.total_by.result ≡ sum (items_of_view c.args.row) = search rules in
    omega (arith, small, value, length-items_of_view c.args.row, c.requires)
