use Rattle.ga_core.proofs.builder.ArrayBuilder.take_some.Goals as goal
use Rattle.std.proofs.Common.{◌∷◌, [], ◌++◌, ◌∙◌, ap, append_assoc, arith, refl}
use Rattle.std.proofs.iter.Next.{Yields-more}

pub loop-items-preserved : goal.loop-items-preserved
loop-items-preserved g c =
    let so_far = c.loop-items.invariant.taken in
    let item = c.in-Some.item in
    let grown = c.push.ensures.items ∙ (ap (λ items. items ++ item ∷ []) so_far.1
    ∙ append_assoc c.args.self.now so_far.0 (item ∷ [])) in
    let calls = Yields-more g.I.Iterator.next_gives c.args.items.now so_far.0 c.loop-items.items item c.next.new.self
    so_far.2 c.in-Some.ensures.steps in
    record {
      can = c.in-Some.ensures.goes.keeps;
      within = omega (arith, c.loop-items-test.ensures.more refl);
      grown = omega (arith, c.push.ensures.len, c.loop-items.invariant.grown);
      taken = (so_far.0 ++ item ∷ [], grown, calls);
    }
