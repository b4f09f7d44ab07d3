use Rattle.ga_core.proofs.FillLemmas.{takes-of_all, takes-of_few, takes-on}
use Rattle.ga_core.proofs.builder.ArrayBuilder.fill.Goals as goal
use Rattle.ga_core.specs.Fill.{Takes}
use Rattle.std.proofs.Common.{◌≡◌, ◌+◌, ◌-◌, List, ◌++◌, ◌∙◌, ap, append_assoc, arith, length, length-append, subst}

long : {X : Type 0} (start taken : List X) {built : List X} → built ≡ start ++ taken
    → length built ≡ length start + length taken
long start taken appended = ap length appended ∙ length-append start taken

-- what one more call took, behind what was taken so far
joined : {X : Type 0} (start first taken : List X) {before after : List X} → before ≡ start ++ first
    → after ≡ before ++ taken → after ≡ start ++ (first ++ taken)
joined start first taken so_far more =
    more ∙ (ap (λ items. items ++ taken) so_far ∙ append_assoc start first taken)

pub returns-then-not-take_some-clause-taken : goal.returns-then-not-take_some-clause-taken
returns-then-not-take_some-clause-taken g c =
    let so_far = c.loop-self.invariant.taken in
    let more = c.take_some.ensures.taken in
    let before = long c.args.self.now so_far.0 so_far.1 in
    let grown = long c.loop-self.self more.0 more.1 in
    let takes = takes-on g.I.Iterator.next_gives _ _ _ so_far.0 more.0 _ so_far.2 more.2 in (
      so_far.0 ++ more.0,
      joined c.args.self.now so_far.0 more.0 so_far.1 more.1,
      takes-of_few g.I.Iterator.next_gives _ _ _ _ _ takes
          (omega (arith, c.take_some.ensures.short c.if-not-take_some.true, grown, length-append so_far.0 more.0))
          (omega (arith, c.loop-self-test.true, c.USIZE.ensures, c.position.ensures.len, before)),
    )

pub loop-self-preserved : goal.loop-self-preserved
loop-self-preserved g c =
    let so_far = c.loop-self.invariant.taken in
    let more = c.take_some.ensures.taken in
    let takes = takes-on g.I.Iterator.next_gives _ _ _ so_far.0 more.0 _ so_far.2 more.2 in
    let all = c.take_some.ensures.all c.if-not-take_some.false in
    record {
      can = c.take_some.ensures.can all;
      taken = (
        so_far.0 ++ more.0,
        joined c.args.self.now so_far.0 more.0 so_far.1 more.1,
        takes-of_all g.I.Iterator.next_gives _ _ _ _ takes
            (omega (arith, all, long c.loop-self.self more.0 more.1, length-append so_far.0 more.0)),
      );
    }

pub returns-clause-taken : goal.returns-clause-taken
returns-clause-taken g c =
    let next = g.I.Iterator.next_gives in
    let so_far = c.loop-self.invariant.taken in
    let more = c.take_some-2.ensures.taken in
    let before = long c.args.self.now so_far.0 so_far.1 in
    let all : length so_far.0 + (c.USIZE-2.result - c.position-2.result) ≡ g.N.Unsigned.USIZE - length c.args.self.now =
    omega (arith, c.USIZE-2.ensures, c.position-2.ensures.len, c.position-2.ensures.bound, before) in (
      so_far.0 ++ more.0,
      joined c.args.self.now so_far.0 more.0 so_far.1 more.1,
      subst (λ n. Takes next c.args.items.now n (so_far.0 ++ more.0) c.take_some-2.new.items) all
          (takes-on next _ _ _ so_far.0 more.0 _ so_far.2 more.2),
    )
