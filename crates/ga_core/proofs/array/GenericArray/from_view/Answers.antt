use Rattle.ga_core.proofs.MadeLemmas.{made-is_written}
use Rattle.ga_core.proofs.array.GenericArray.from_view.Goals as goal
use Rattle.std.proofs.Common.{◌∙◌, sym}

pub copy_from_slice-requires : goal.copy_from_slice-requires
copy_from_slice-requires g c = c.as_mut_slice.ensures.len ∙ sym c.as_slice.ensures.len

pub returns : goal.returns
returns g c =
    c.repack.ensures ∙ (made-is_written c.as_mut_slice.ensures.items c.copy_from_slice.ensures.len
    ∙ (c.copy_from_slice.ensures.after ∙ c.as_slice.ensures.items))
