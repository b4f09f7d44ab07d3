use mathlib.Core.Bool.{true≢false}
use Rattle.ga_core.proofs.FillLemmas.{TakeGoodRuns-from_takes, has-room, room-left, takes-all, takes-to_end}
use Rattle.ga_core.proofs.builder.ArrayBuilder.try_extend.Goals as goal
use Rattle.ga_core.specs.Fill.{TakesGood}
use Rattle.std.proofs.Common.{◌≡◌, ◌∷◌, [], ◌++◌, ◌-◌, Err, Ok, Some, ap, append_assoc, length, map, refl, subst, sym}
use Rattle.std.proofs.Common.{◌∙◌}
use Rattle.std.proofs.iter.Next.{Yields-more}
use Rattle.std.proofs.lemmas.List.{length-map, map-append}
use Rattle.std.specs.Iterator.{Yields}

pub loop-items-preserved : goal.loop-items-preserved
loop-items-preserved g c =
    let next = g.I.Iterator.next_gives in
    let so_far = c.loop-items.invariant.taken in
    let item = c.in-Some-Ok.item in
    let grown = c.push.ensures.items ∙ (ap (λ items. items ++ item ∷ []) so_far.1
    ∙ append_assoc c.args.self.now so_far.0 (item ∷ [])) in
    let call = subst (λ reply. next c.loop-items.items (Some reply) c.next.new.self)
    c.in-Some-Ok.field-0-is c.in-Some-Ok.ensures.steps in
    let calls = subst (λ taken. Yields next c.args.items.now taken c.next.new.self)
    (sym (map-append Ok so_far.0 (item ∷ []))) (Yields-more next c.args.items.now (map Ok so_far.0)
    c.loop-items.items (Ok item) c.next.new.self so_far.2 call) in
    record { can = c.in-Some-Ok.ensures.goes.keeps; taken = (so_far.0 ++ item ∷ [], grown, calls) }

pub returns : goal.returns
returns g c =
    let next = g.I.Iterator.next_gives in
    let so_far = c.loop-items.invariant.taken in
    let takes = takes-all next (map Ok) (λ items. length-map items Ok) c.args.items.now c.loop-items.items _ _ so_far.0
    so_far.1 (c.loop-items-test.ensures.full.0 refl) so_far.2 in
    record {
      taken = (so_far.0, so_far.1, takes);
      runs = TakeGoodRuns-from_takes next (λ good. c.loop-items.self ≡ c.args.self.now ++ good) _ _ _ (Ok tt) _ takes
          so_far.1;
      bound = c.loop-items-test.ensures.bound;
      can = λ _. c.loop-items.invariant.can;
      can_on = tt;
    }

pub returns-in-None : goal.returns-in-None
returns-in-None g c =
    let next = g.I.Iterator.next_gives in
    let so_far = c.loop-items.invariant.taken in
    let told = c.loop-items-test.ensures in
    let takes = takes-to_end next (map Ok) (λ items. length-map items Ok) c.args.items.now c.next.new.self _ _ so_far.0
    so_far.1 (has-room _ _ told.bound told.full.1) (c.loop-items.items, so_far.2, c.in-None.ensures.steps) in
    record {
      taken = (so_far.0, so_far.1, takes);
      runs = TakeGoodRuns-from_takes next (λ good. c.loop-items.self ≡ c.args.self.now ++ good) _ _ so_far.0 (Ok tt) _
          takes so_far.1;
      bound = c.loop-items-test.ensures.bound;
      can = λ full. absurd (true≢false (sym (told.full.1 full)));
      can_on = tt;
    }

pub returns-in-Some-Err : goal.returns-in-Some-Err
returns-in-Some-Err g c =
    let next = g.I.Iterator.next_gives in
    let so_far = c.loop-items.invariant.taken in
    let told = c.loop-items-test.ensures in
    let call = subst (λ reply. next c.loop-items.items (Some reply) c.next.new.self)
    c.in-Some-Err.field-0-is c.in-Some-Err.ensures.steps in
    let few = room-left _ _ so_far.0 so_far.1 (has-room _ _ told.bound told.full.1) in
    let takes : TakesGood next c.args.items.now (g.N.Unsigned.USIZE - length c.args.self.now) so_far.0
    (Err c.in-Some-Err.error) c.next.new.self = ((c.loop-items.items, so_far.2, call), few) in
    record {
      taken = (so_far.0, so_far.1, takes);
      runs = TakeGoodRuns-from_takes next (λ good. c.loop-items.self ≡ c.args.self.now ++ good)
          c.args.items.now _ so_far.0 (Err c.in-Some-Err.error) c.next.new.self takes so_far.1;
      bound = c.loop-items-test.ensures.bound;
      can = λ full. absurd (true≢false (sym (told.full.1 full)));
      can_on = c.in-Some-Err.ensures.goes.keeps;
    }

pub push-requires : goal.push-requires
push-requires g c = record { room = has-room _ _ c.loop-items-test.ensures.bound c.loop-items-test.ensures.full.1 }
