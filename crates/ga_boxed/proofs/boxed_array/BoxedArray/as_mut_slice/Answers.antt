use Rattle.ga_boxed.proofs.boxed_array.BoxedArray.as_mut_slice.Goals as goal
use Rattle.std.proofs.Common.{◌∙◌, ap, length, refl}
use Rattle.std.specs.List.{refill}

pub returns : goal.returns
returns g c = (
  (refl, λ w. ap (λ items. refill (length items) items w) c.self.view_is),
  record {
    writes_back = tt;
    items = c.all_mut.ensures.items ∙ c.self.view_is;
    len = ap length c.all_mut.ensures.items ∙ c.self.invariant;
  },
)
