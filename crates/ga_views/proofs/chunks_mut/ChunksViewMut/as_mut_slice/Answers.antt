use Rattle.ga_views.proofs.ChunksViewMutLemmas.{same_rows}
use Rattle.ga_views.proofs.chunks_mut.ChunksViewMut.as_mut_slice.Goals as goal
use Rattle.std.proofs.Common.{ap, length, ◌∙◌}
use Rattle.std.specs.Prelude.{refl}

pub as_mut_slice-requires : goal.as_mut_slice-requires
as_mut_slice-requires g c = record { len = ap length c.as_slice-len.ensures }

pub returns : goal.returns
returns g c =
    let items = c.as_mut_slice.ensures.items in
    let len = ap length items ∙ c.args.self.now.whole in
    ((refl, λ written. same_rows c.args.self.now _ _ _ _ refl), record { writes_back = _; items = items; len = len })
