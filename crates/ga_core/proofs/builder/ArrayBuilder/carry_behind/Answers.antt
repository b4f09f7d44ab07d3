use Rattle.ga_core.proofs.SlotLemmas.{front-room, front-written}
use Rattle.ga_core.proofs.builder.ArrayBuilder.carry_behind.Goals as goal
use Rattle.std.proofs.Common.{◌∷◌, [], ◌++◌, ◌∙◌, ap, get_or, refl, remove}

pub returns-clause-carried : goal.returns-clause-carried
returns-clause-carried g c item =
    let index = c.args.index in
    let len = c.self.inside.position in
    let slots = g.N.ArrayType.Store.items c.self.inside.store in
    let written = c.carry_to_end.new.items in
    let lent = c.part_mut.ensures.items in
    let room = front-room len slots c.part_mut.result.now lent c.self.invariant.0 c.self.invariant.1 refl in
    front-written len slots written _ room.0 (c.carry_to_end.auto.items ∙ room.1)
    (g.N.ArrayType.Store.store_with c.self.inside.store _).1 ∙ (c.carry_to_end.ensures item
    ∙ ap (λ items. remove items index ++ get_or items index item ∷ []) (lent ∙ c.self.view_is))
