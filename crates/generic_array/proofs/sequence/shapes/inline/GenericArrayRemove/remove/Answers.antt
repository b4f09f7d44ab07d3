use Rattle.generic_array.proofs.ShapeLemmas.{taken-at_end}
use Rattle.generic_array.proofs.sequence.shapes.inline.GenericArrayRemove.remove.Goals as goal
use Rattle.std.proofs.lemmas.Grind.{common_steps}
use Rattle.std.proofs.Common.{◌≡◌, ◌∷◌, [], ◌++◌, ◌∙◌, ap, arith, get_or, length, remove, sym}

pub returns : goal.returns
returns g c =
    let self = c.args.self in
    let index = c.args.index in
    let carried = c.carry_to_end.new.items in
    let left = c.next_back.new.self in
    let item = c.unwrap-item.result in
    let borrowed : c.as_mut_slice.result.now ≡ self =
    c.as_mut_slice.ensures.items ∙ ap (λ array. array.now) c.view_mut-view.ensures.slice in
    let same : length carried ≡ length self = c.carry_to_end.auto.items ∙ ap length borrowed in
    let ends : c.into_iter-items.result ≡ carried = grind (arith, common_steps, same, borrowed) in
    let taken : carried ≡ left ++ item ∷ [] = sym ends ∙ rw c.unwrap-item.ensures at c.next_back.ensures.steps in
    let order : carried ≡ remove self index ++ get_or self index item ∷ [] =
    rw borrowed at (c.carry_to_end.ensures item) in
    let long = c.carry_to_end.auto.items ∙ (c.as_mut_slice.ensures.len ∙ c.requires.one_shorter) in
    let told = taken-at_end self carried (remove self index) left index g.M.Unsigned.USIZE item
    c.requires.in_bounds long order taken in
    record { item = told.0; others = c.next_array.ensures.first ∙ told.1 }
