use Rattle.ga_core.proofs.SlotLemmas.{behind-long, behind-written}
use Rattle.ga_core.proofs.builder.ArrayBuilder.take_from.Goals as goal
use Rattle.ga_views.specs.Parts.{part_set}
use Rattle.std.proofs.Common.{◌++◌, ◌∙◌, ap, take}

pub returns-clause-taken : goal.returns-clause-taken
returns-clause-taken g c =
    let slots = g.N.ArrayType.Store.items c.self.inside.store in
    let moved = c.exchange_or_move.new.slots in
    let part = part_set c.self.inside.position c.args.count slots moved in
    let long = behind-long _ slots c.self.invariant.0 c.self.invariant.1 c.self.view_is c.requires.room
    c.part_mut.ensures.items in
    behind-written _ slots c.self.invariant.0 c.self.invariant.1 c.self.view_is c.requires.room moved _
    (g.N.ArrayType.Store.store_with c.self.inside.store part).1 (c.exchange_or_move.auto.slots ∙ long)
    ∙ ap (λ list. c.args.self.now ++ list) (c.exchange_or_move.ensures.moved ∙ ap (λ k. take k c.args.items.now) long)
