use Rattle.ga_core.proofs.store.array_of_store.Goals as goal
use Rattle.std.proofs.Common.{ap, length, sym, ◌∙◌}

pub move_items-requires : goal.move_items-requires
move_items-requires g c = record {
  len = ap length c.as_mut_slice.ensures.value ∙ (c.requires.full ∙ sym c.default-items.ensures.long);
}

pub returns : goal.returns
returns g c = c.move_items.ensures.moved ∙ c.as_mut_slice.ensures.value
