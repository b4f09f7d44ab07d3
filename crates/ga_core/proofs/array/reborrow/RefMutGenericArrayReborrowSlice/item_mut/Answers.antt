use Rattle.ga_core.proofs.SlotLemmas.{refill-long, refill-set}
use Rattle.ga_core.proofs.array.reborrow.RefMutGenericArrayReborrowSlice.item_mut.Goals as goal
use Rattle.std.proofs.Common.{◌∙◌, ap, refl, slice_set}

pub returns : goal.returns
returns g c =
    let items = g.N.ArrayType.Store.items c.array.inside.store in
    let index = c.args.index in (
      (
        refl,
        λ w. ap (λ now. record c.args.self.now { now = now })
            (refill-set items items _ index w refl (g.N.ArrayType.Store.store_with c.array.inside.store _).1
            ∙ ap (λ items. slice_set items index w) c.array.view_is),
      ),
      record { writes_back = tt; item = rw c.array.view_is at c.item_mut.ensures.item },
    )

pub item_mut-requires : goal.item_mut-requires
item_mut-requires g c = record { in_bounds = rw c.array.view_is c.requires.in_bounds }

pub invariant_of-array-lent : goal.invariant_of-array-lent
invariant_of-array-lent g c = λ w.
    let items = g.N.ArrayType.Store.items c.array.inside.store in
    let after = g.N.ArrayType.Store.store_with c.array.inside.store (slice_set items c.args.index w) in
    (refill-long items _ _ after.1 ∙ c.array.invariant.0, c.array.invariant.1)
