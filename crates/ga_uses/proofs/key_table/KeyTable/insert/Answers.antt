use Rattle.ga_uses.proofs.KeyTableLemmas.{changes-with_entry, sorted_inserted, sorted_written}
use Rattle.ga_uses.proofs.key_table.KeyTable.insert.Goals as goal
use Rattle.ga_uses.specs.KeyTable.{IsInKeyOrder}
use Rattle.std.proofs.Common.{subst, sym}

-- the key was there, and its value is written over
pub invariant_of-self : goal.invariant_of-self
invariant_of-self g c = sorted_written c.self.inside.entries.items c.self.invariant c.args.key c.in-Ok.place
    (rw c.self.view_is c.in-Ok.ensures.found) _ _ c.index_mut-entry.ensures.value

-- the entry goes to the key's place, where there is memory
pub invariant_of-self-in-Err : goal.invariant_of-self-in-Err
invariant_of-self-in-Err g c = subst IsInKeyOrder (sym c.insert.ensures.items)
    (sorted_inserted c.self.inside.entries.items c.self.invariant c.args.key c.in-Err.place
    (rw c.self.view_is c.in-Err.ensures.absent) _ _)

-- the value that was there, and the entries with the entry, as the search found the key
pub returns-in-Ok-clause-old : goal.returns-in-Ok-clause-old
returns-in-Ok-clause-old g c = cc (c.in-Ok.ensures.found.value c.index_mut-entry.result.now)

pub returns-in-Ok-clause-entries : goal.returns-in-Ok-clause-entries
returns-in-Ok-clause-entries g c = cc (c.in-Ok.ensures.found.written c.args.value c.index_mut-entry.result.now)

pub returns-in-Ok-clause-changes : goal.returns-in-Ok-clause-changes
returns-in-Ok-clause-changes g c =
    rw (returns-in-Ok-clause-entries g c) (changes-with_entry c.args.self.now c.args.key c.args.value)

pub returns-in_ok-insert-in-Err-clause-entries : goal.returns-in_ok-insert-in-Err-clause-entries
returns-in_ok-insert-in-Err-clause-entries g c =
    cc (c.in-Err.ensures.absent.inserted c.args.value, c.in_ok-insert-in-Err.ensures.items)

pub returns-in_ok-insert-in-Err-clause-changes : goal.returns-in_ok-insert-in-Err-clause-changes
returns-in_ok-insert-in-Err-clause-changes g c =
    rw (returns-in_ok-insert-in-Err-clause-entries g c) (changes-with_entry c.args.self.now c.args.key c.args.value)
