use Rattle.ga_core.proofs.MadeLemmas.{made-is_written}
use Rattle.ga_core.proofs.array.GenericArray.try_from_vec.Goals as goal
use Rattle.std.proofs.Common.{◌∙◌, ap, length, refl, sym}

pub move_items-requires : goal.move_items-requires
move_items-requires g c = record {
  len = c.as_mut_slice.ensures.len
      ∙ (sym c.len.ensures ∙ (c.if-len-USIZE.false ∙ (c.USIZE.ensures ∙ sym c.as_mut_slice-2.ensures.len)));
}

pub returns-clause-variant : goal.returns-clause-variant
returns-clause-variant g c = (
  λ _. sym (ap length c.as_mut_slice.ensures.value)
      ∙ (c.as_mut_slice.ensures.len ∙ (sym c.len.ensures ∙ (c.if-len-USIZE.false ∙ c.USIZE.ensures))),
  λ _. refl,
)

pub returns-clause-ok : goal.returns-clause-ok
returns-clause-ok g c =
    c.repack.ensures ∙ (made-is_written c.as_mut_slice-2.ensures.items c.move_items.auto.slots
    ∙ (c.move_items.ensures.moved ∙ c.as_mut_slice.ensures.value))
