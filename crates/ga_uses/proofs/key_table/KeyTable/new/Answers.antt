use Rattle.ga_uses.proofs.KeyTableLemmas.{sorted_empty}
use Rattle.ga_uses.proofs.key_table.KeyTable.new.Goals as goal

-- no entries are in order
pub invariant_of-result : goal.invariant_of-result
invariant_of-result g c = rw c.new.ensures.items (sorted_empty g.row.V.Denot)
