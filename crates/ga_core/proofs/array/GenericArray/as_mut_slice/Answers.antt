use Rattle.ga_core.proofs.SlotLemmas.{refill-long}
use Rattle.ga_core.proofs.array.GenericArray.as_mut_slice.Goals as goal
use Rattle.ga_views.proofs.PartLemmas.{part-all}
use Rattle.ga_views.specs.Parts.{part_set}
use Rattle.std.proofs.Common.{◌≡◌, ◌∙◌, ap, length, refl, sym}
use Rattle.std.proofs.Math.Seq.{take-length}

pub returns : goal.returns
returns g c =
    let items = g.N.ArrayType.Store.items c.self.inside.store in
    let count = c.USIZE.result in
    let long : count ≡ length items = c.USIZE.ensures ∙ sym c.self.invariant.0 in
    let shown : c.part_mut.result.now ≡ c.args.self.now =
    (rw (long, take-length items) at c.part_mut.ensures.items) ∙ c.self.view_is in (
      (
        refl,
        λ w. (g.N.ArrayType.Store.store_with c.self.inside.store (part_set 0 count items w)).1
            ∙ rw (long, part-all items w, c.self.view_is) refl,
      ),
      record {
        writes_back = tt;
        items = shown;
        len = ap length (shown ∙ sym c.self.view_is) ∙ c.self.invariant.0;
        fits = c.self.invariant.1;
      },
    )

pub invariant_of-self-lent : goal.invariant_of-self-lent
invariant_of-self-lent g c = λ w.
    let items = g.N.ArrayType.Store.items c.self.inside.store in
    let part = part_set 0 c.USIZE.result items w in
    let long = refill-long items part _ (g.N.ArrayType.Store.store_with c.self.inside.store part).1 in
    (long ∙ c.self.invariant.0, c.self.invariant.1)
