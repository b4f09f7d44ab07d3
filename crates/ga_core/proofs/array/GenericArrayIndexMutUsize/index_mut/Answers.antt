use Rattle.ga_core.proofs.SlotLemmas.{refill-long, refill-set}
use Rattle.ga_core.proofs.array.GenericArrayIndexMutUsize.index_mut.Goals as goal
use Rattle.std.proofs.Common.{◌∙◌, ap, arith, refl, slice_set, sym}
use Rattle.std.proofs.lemmas.Option.{slice_get_read}

pub returns : goal.returns
returns g c =
    let items = g.N.ArrayType.Store.items c.self.inside.store in
    let index = c.args.index in
    let item = slice_get_read items _ index _ (sym c.self.invariant.0) c.requires c.item_mut.ensures.item in (
      (
        refl,
        λ w. refill-set items items _ index w refl (g.N.ArrayType.Store.store_with c.self.inside.store _).1
            ∙ ap (λ items. slice_set items index w) c.self.view_is,
      ),
      record { writes_back = tt; item = rw c.self.view_is at item },
    )

pub item_mut-requires : goal.item_mut-requires
item_mut-requires g c = record { in_bounds = omega (arith, c.requires, c.self.invariant.0) }

pub invariant_of-self-lent : goal.invariant_of-self-lent
invariant_of-self-lent g c = λ w.
    let items = g.N.ArrayType.Store.items c.self.inside.store in
    let after = g.N.ArrayType.Store.store_with c.self.inside.store (slice_set items c.args.index w) in
    (refill-long items _ _ after.1 ∙ c.self.invariant.0, c.self.invariant.1)
