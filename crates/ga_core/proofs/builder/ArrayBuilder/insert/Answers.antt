use Rattle.ga_core.proofs.SlotLemmas.{front-room, front-written}
use Rattle.ga_core.proofs.builder.ArrayBuilder.insert.Goals as goal
use Rattle.ga_views.specs.Parts.{part_set}
use Rattle.std.proofs.Common.{◌∙◌, ap, arith, length, refl}
use Rattle.std.proofs.lemmas.List.Edits.{length-insert}

pub returns : goal.returns
returns g c =
    let len = c.self.inside.position in
    let slots = g.N.ArrayType.Store.items c.self.inside.store in
    let written = c.carry_from_end.new.items in
    let after = g.N.ArrayType.Store.store_with c.self.inside.store (part_set 0 len slots written) in
    let lent = c.part_mut.ensures.items in
    let room = front-room len slots c.part_mut.result.now lent c.self.invariant.0 c.self.invariant.1 refl in
    let items = front-written len slots written (g.N.ArrayType.Store.items after.0) room.0
    (c.carry_from_end.auto.items ∙ room.1) after.1
    ∙ c.carry_from_end.ensures c.args.self.now c.args.item (lent ∙ (c.self.view_is ∙ c.push.ensures.items)) in
    let len = ap length items ∙ length-insert c.args.self.now c.args.index c.args.item c.requires.in_bounds in
    record { items = items; len = len; bound = omega (arith, len, c.requires.room) }
