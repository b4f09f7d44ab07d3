use Rattle.generic_array.proofs.sequence.shapes.inline.GenericArrayRow.move_into.Goals as goal
use Rattle.std.proofs.Common.{◌≡◌, ◌∙◌, ◌∷◌, ap, arith, length, length-append}

pub push-requires : goal.push-requires
push-requires g c =
    let first : c.loop-item.item-iterator ≡ c.in-Some.item ∷ c.next.new.self = c.in-Some.ensures.steps in
    let so_far = length-append c.loop-item.joined c.loop-item.item-iterator in
    let same = ap length c.loop-item.invariant.same ∙ length-append c.args.joined.now c.args.self in
    let long = c.into_iter-item-iterator.ensures.into_iter_gives.3 in
    record { room = omega (arith, ap length first, so_far, same, long, c.requires.room) }
