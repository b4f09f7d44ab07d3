use Rattle.ga_uses.proofs.KeyTableLemmas.{changes-without_key, sorted_removed}
use Rattle.ga_uses.proofs.key_table.KeyTable.remove.Goals as goal
use Rattle.ga_uses.specs.KeyTable.{IsInKeyOrder}
use Rattle.std.proofs.Common.{subst, sym}

-- the other entries stay in order
pub invariant_of-self : goal.invariant_of-self
invariant_of-self g c = subst IsInKeyOrder (sym c.remove-key.ensures.items)
    (sorted_removed c.self.inside.entries.items c.self.invariant c.args.key.now c.in-Ok.place
    (rw c.self.view_is c.in-Ok.ensures.found))

-- the value that was there, and the entries without the key's, as the search found the key
pub returns-in-Ok-clause-old : goal.returns-in-Ok-clause-old
returns-in-Ok-clause-old g c = cc (c.in-Ok.ensures.found.value c.remove-key.result)

pub returns-in-Ok-clause-entries : goal.returns-in-Ok-clause-entries
returns-in-Ok-clause-entries g c = cc (c.in-Ok.ensures.found.removed, c.remove-key.ensures.items)

pub returns-in-Ok-clause-changes : goal.returns-in-Ok-clause-changes
returns-in-Ok-clause-changes g c =
    rw (returns-in-Ok-clause-entries g c)
    (changes-without_key c.args.self.now c.args.key.now (subst IsInKeyOrder c.self.view_is c.self.invariant))
