use Rattle.ga_core.proofs.PlaceLemmas.{below_each}
use Rattle.ga_uses.proofs.matrix.permuted.Goals as goal
use Rattle.std.proofs.Common.{◌<◌, arith, rules}

-- each place is that of a row
pub map_inline_ref-requires-clause-callable : goal.map_inline_ref-requires-clause-callable
map_inline_ref-requires-clause-callable g c passed place others ys reached whole run at is holds =
    let below : place < g.row.R = below_each _ _ passed others place c.requires whole in
    holds (omega arith) (search rules)
