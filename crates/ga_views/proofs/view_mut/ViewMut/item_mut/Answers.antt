use Rattle.ga_views.proofs.ViewMutLemmas.{same_full}
use Rattle.ga_views.proofs.view_mut.ViewMut.item_mut.Goals as goal
use Rattle.std.specs.Prelude.{refl}

pub returns : goal.returns
returns g c = ((refl, λ item. same_full _ _), record { writes_back = _; item = c.item_mut.ensures.item })
