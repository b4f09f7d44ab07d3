use Rattle.ga_core.proofs.SlotLemmas.{refill-set}
use Rattle.ga_core.proofs.store.put_at.Goals as goal
use Rattle.std.proofs.Common.{refl, slice_set}

pub returns : goal.returns
returns g c =
    let items = g.S.Store.items c.args.store.now in
    let after = g.S.Store.store_with c.args.store.now (slice_set items c.args.slot c.args.item) in
    refill-set items items (g.S.Store.items after.0) c.args.slot c.args.item refl after.1
