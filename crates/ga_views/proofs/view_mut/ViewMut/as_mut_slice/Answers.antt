use Rattle.ga_views.proofs.ViewMutLemmas.{same_full}
use Rattle.ga_views.proofs.view_mut.ViewMut.as_mut_slice.Goals as goal
use Rattle.std.proofs.Common.{ap, length, sym, ◌∙◌}
use Rattle.std.specs.Prelude.{refl}

pub returns : goal.returns
returns g c =
    let items = c.as_mut_slice.ensures.items in
    let len = ap length items ∙ c.args.self.now.full in
    ((refl, λ written. same_full _ _), record { writes_back = _; items = items; len = len })

pub as_mut_slice-requires : goal.as_mut_slice-requires
as_mut_slice-requires g c = record { len = c.USIZE.ensures ∙ sym c.args.self.now.full }
