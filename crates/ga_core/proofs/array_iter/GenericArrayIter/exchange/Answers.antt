use Rattle.ga_core.proofs.LeftLemmas.{left-past}
use Rattle.ga_core.proofs.array_iter.GenericArrayIter.exchange.Goals as goal
use Rattle.ga_views.specs.Parts.{part_set}
use Rattle.std.proofs.Common.{length}

pub returns-clause-left : goal.returns-clause-left
returns-clause-left g c =
    let items = g.N.ArrayType.Store.items c.self.inside.store in
    let part = part_set c.self.inside.front (length c.args.slots.now) items c.swap_slices.new.left in
    left-past items _ c.self.invariant c.self.view_is _ c.requires.enough _ c.swap_slices.new.left
    (g.N.ArrayType.Store.store_with c.self.inside.store part).1
