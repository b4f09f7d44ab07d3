use Rattle.ga_views.proofs.view_mut.ViewMut.iter_mut.Goals as goal
use Rattle.std.proofs.Common.{sym, ◌∙◌}
use Rattle.std.specs.Prelude.{refl}

-- the iterator holds what `as_mut_slice` lends
pub returns : goal.returns
returns g c =
    let made = c.iter_mut.ensures in
    let lent = c.as_mut_slice.ensures in (
      (sym made.iter_mut_name, λ written. refl),
      record {
        writes_back = tt;
        items = (made.rest ∙ lent.items, made.len ∙ lent.len, made.bound, made.runs, made.runs_back);
      },
    )
