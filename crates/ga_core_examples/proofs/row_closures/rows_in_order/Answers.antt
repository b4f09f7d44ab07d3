use Rattle.ga_core.proofs.PlaceLemmas.{below_each}
use Rattle.ga_core_examples.proofs.row_closures.rows_in_order.Goals as goal
use Rattle.std.proofs.Common.{◌<◌, rules}

pub map_inline-requires : goal.map_inline-requires
map_inline-requires g c = record {
  callable = λ passed item others ys reached same run at here holds.
      let below : item < g.row.R = below_each _ _ passed others item c.requires same in
      holds (search (rules, below)) (search rules);
}
