use Rattle.ga_core.proofs.array.GenericArrayIndexUsize.index.Goals as goal
use Rattle.std.specs.Prelude.{length}
use Rattle.std.proofs.Common.{◌∙◌, ap, sym, slice_get}
use Rattle.std.proofs.lemmas.Option.{slice_get_read}

pub returns : goal.returns
returns g c =
    let here = ap (λ items. slice_get items c.args.index) (sym c.as_slice.ensures.items)
    ∙ slice_get_read c.as_slice.result.now g.N.Unsigned.USIZE c.args.index c.index-as_slice-index.result
    (sym c.as_slice.ensures.len) c.requires c.index-as_slice-index.is in
    let long = ap length (sym c.as_slice.ensures.items) ∙ c.as_slice.ensures.len in
    (here, long, c.as_slice.ensures.fits)
