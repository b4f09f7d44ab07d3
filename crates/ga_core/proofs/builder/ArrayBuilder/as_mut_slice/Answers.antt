use Rattle.ga_core.proofs.SlotLemmas.{refill-long}
use Rattle.ga_core.proofs.builder.ArrayBuilder.as_mut_slice.Goals as goal
use Rattle.ga_views.proofs.PartLemmas.{part-within}
use Rattle.ga_views.specs.Parts.{part_set}
use Rattle.std.proofs.Common.{◌≡◌, ◌≤◌, ◌∙◌, ap, arith, length, length-take, refl}

pub invariant_of-self-lent : goal.invariant_of-self-lent
invariant_of-self-lent g c w =
    let items = g.N.ArrayType.Store.items c.self.inside.store in
    let part = part_set 0 c.self.inside.position items w in
    let long = refill-long items part _ (g.N.ArrayType.Store.store_with c.self.inside.store part).1 in
    (c.self.invariant.0, long ∙ c.self.invariant.1, c.self.invariant.2)

pub returns : goal.returns
returns g c =
    let items = g.N.ArrayType.Store.items c.self.inside.store in
    let len = c.self.inside.position in
    let within : len ≤ length items = omega (arith, c.self.invariant.0, c.self.invariant.1) in
    let count : length c.args.self.now ≡ len =
    omega (arith, ap length c.self.view_is, length-take len items, within) in
    let shown = c.part_mut.ensures.items ∙ c.self.view_is in (
      (
        refl,
        λ w. part-within 0 len items w _ (omega (arith, within))
            (g.N.ArrayType.Store.store_with c.self.inside.store _).1 ∙ rw (c.self.view_is, count) refl,
      ),
      record {
        writes_back = tt;
        items = shown;
        bound = omega (arith, ap length shown, count, c.self.invariant.0);
        fits = c.self.invariant.2;
      },
    )
