use Rattle.ga_core.proofs.MoveLemmas.{pushed-next}
use Rattle.ga_core.proofs.array.conversions.push_items.Goals as goal
use Rattle.std.proofs.Common.{◌<◌, ◌≡◌, ◌≤◌, ◌∙◌, ap, arith, length, slice_index_or, sym, take_all}

pub loop-slot-preserved : goal.loop-slot-preserved
loop-slot-preserved g c =
    let at = c.loop-slot in
    let some : at.slot-index < length at.slots = rw at.auto.slots c.loop-slot-test.true in
    let this : c.take.result ≡ slice_index_or at.slots at.slot-index c.take.result =
    c.take.ensures.value ∙ ap (slice_index_or at.slots at.slot-index) (c.slot-item.is ∙ sym c.take.ensures.value) in
    let moved = pushed-next at.slot-index c.args.slots.now at.slots at.items.items c.push_reserved.new.self.items
    c.take.result c.take.new.dest some this at.invariant.moved c.push_reserved.ensures.items in
    record { moved = moved; room = omega (arith, c.push_reserved.ensures.capacity, at.invariant.room) }

pub returns : goal.returns
returns g c =
    let whole : length c.args.slots.now ≤ c.loop-slot.slot-index = omega (arith, c.loop-slot-test.false) in
    c.loop-slot.invariant.moved.0 ∙ take_all c.loop-slot.slot-index c.args.slots.now whole
