use Rattle.ga_uses.proofs.KeyTableLemmas.{ranged}
use Rattle.ga_uses.proofs.key_table.KeyTable.range.Goals as goal
use Rattle.std.proofs.Common.{sym}

-- between the two places stand the entries of the range
pub returns : goal.returns
returns g c =
    let start = c.place_of-start.ensures in
    let end = c.place_of-end.ensures in
    rw (c.deref.ensures.value, c.self.view_is, c.min.ensures)
    (sym (ranged _ start.ordered c.args.from.now c.args.to.now _ _ start.in_range end.in_range start.parts end.parts))
