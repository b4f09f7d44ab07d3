use Rattle.ga_core.proofs.LeftLemmas.{left-past}
use Rattle.ga_core.proofs.array_iter.GenericArrayIter.move_to.Goals as goal
use Rattle.ga_views.specs.Parts.{part_set}
use Rattle.std.proofs.Common.{length}

pub returns-clause-left : goal.returns-clause-left
returns-clause-left g c =
    let items = g.N.ArrayType.Store.items c.self.inside.store in
    let part = part_set c.self.inside.front (length c.args.slots.now) items c.move_items.new.items in
    left-past items _ c.self.invariant c.self.view_is _ c.requires.enough _ c.move_items.new.items
    (g.N.ArrayType.Store.store_with c.self.inside.store part).1
