use Rattle.ga_core.proofs.store.Store.with_defaults.Given as goal
use Rattle.std.proofs.Common.{◌≡◌, length, All}

-- so many defaults were put
abbrev pub invariant-loop-slot : goal.invariant-loop-slot
invariant-loop-slot g l = record {
  items : All g.T.Default.is_default (g.Self.Store.items l.store);
  long : length (g.Self.Store.items l.store) ≡ l._slot;
}
