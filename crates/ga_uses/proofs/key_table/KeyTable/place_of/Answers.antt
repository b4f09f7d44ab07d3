use Rattle.ga_uses.proofs.SearchLemmas.{parted}
use Rattle.ga_uses.proofs.key_table.KeyTable.place_of.Goals as goal
use Rattle.ga_uses.specs.KeyTable.{key_order}
use Rattle.std.proofs.Common.{rules, is_lt}
use Rattle.std.proofs.lemmas.Cmp.{nat_list_cmp_total}
use Rattle.std.proofs.lemmas.List.Sorted.{IsPartitionPoint-from_clause}

-- the closure tests a key, and the slice is the table's entries
pub returns-clause-parts : goal.returns-clause-parts
returns-clause-parts g c =
    rw (← c.self.view_is, ← c.deref.ensures.value)
    (IsPartitionPoint-from_clause (λ e. is_lt (key_order e.0 c.args.key.now)) _ _ c.partition_point.ensures.partitioned
    (rw c.deref.ensures.value (parted nat_list_cmp_total c.args.key.now _ c.self.invariant))
    (λ a r f called. search rules))
