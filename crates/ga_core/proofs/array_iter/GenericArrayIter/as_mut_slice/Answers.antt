use Rattle.ga_core.proofs.LeftLemmas.{count, left-kept}
use Rattle.ga_core.proofs.array_iter.GenericArrayIter.as_mut_slice.Goals as goal
use Rattle.ga_views.proofs.PartLemmas.{part-within}
use Rattle.ga_views.specs.Parts.{part_set}
use Rattle.std.proofs.Common.{◌-◌, ◌∙◌, arith, refl}

pub invariant_of-self-lent : goal.invariant_of-self-lent
invariant_of-self-lent g c w =
    let items = g.N.ArrayType.Store.items c.self.inside.store in
    let part = part_set c.self.inside.front (c.self.inside.back - c.self.inside.front) items w in
    left-kept items _ c.self.invariant c.self.view_is _ part c.self.invariant.0 c.self.invariant.1
    (g.N.ArrayType.Store.store_with c.self.inside.store part).1

pub returns : goal.returns
returns g c =
    let lies = c.self.invariant in
    let items = g.N.ArrayType.Store.items c.self.inside.store in
    let front = c.self.inside.front in
    let len = c.self.inside.back - front in (
      (
        refl,
        λ w. part-within front len items w _ (omega (arith, lies.0, lies.1))
            (g.N.ArrayType.Store.store_with c.self.inside.store _).1
            ∙ rw (c.self.view_is, count items _ lies c.self.view_is) refl,
      ),
      record { writes_back = tt; items = c.part_mut.ensures.items ∙ c.self.view_is },
    )
