use Rattle.ga_uses.proofs.KeyTableLemmas.{searched}
use Rattle.ga_uses.proofs.key_table.KeyTable.search.Goals as goal
use Rattle.ga_uses.specs.KeyTable.{key_order}
use Rattle.std.proofs.Common.{rules}
use Rattle.std.proofs.lemmas.Fn.{always_returns_same}

-- the closure compares a key, and the slice is the table's entries
pub returns : goal.returns
returns g c =
    let by_key = c.binary_search_by.ensures.position (λ e. key_order e.0 c.args.key.now)
    (always_returns_same _ _ _ (λ a r f' called. search rules)) in
    rw (← c.self.view_is, ← c.deref.ensures.value)
    (searched _ (rw c.deref.ensures.value c.self.invariant) c.args.key.now _ c.binary_search_by.ensures.bound by_key)
