use Rattle.ga_core.proofs.CutLemmas.{nth-past, nth-step, passed-more}
use Rattle.ga_boxed.proofs.boxed_array_iter.BoxedArrayIter.nth.Goals as goal
use Rattle.ga_boxed.proofs.BlockLemmas.{first-came}
use Rattle.std.proofs.Common.{◌≡◌, ◌∙◌, ap, arith, drop, length, length-drop, min, refl, sym}
use Rattle.std.proofs.lemmas.List.{drop_min}

pub loop-passed-preserved : goal.loop-passed-preserved
loop-passed-preserved g c =
    let at = c.loop-passed in
    let before = at.self-inside.items in
    let after = c.take_front.new.self in
    passed-more at._passed c.args.self.now before.items c.take_front.result after.items at.invariant
    (first-came before after c.take_front.result c.take_front.ensures)

pub returns-in_err-take_front : goal.returns-in_err-take_front
returns-in_err-take_front g c =
    let at = c.loop-passed in
    let items = c.args.self.now in
    let ended = c.in_err-take_front.ensures in
    record {
      step = rw c.from_residual.ensures (nth-past c.args.n items c.take_front.new.self.items
          (omega (arith, length-drop at._passed items, ap length at.invariant, ap length ended.0, at.auto._passed-end))
          (ap (λ block. block.items) ended.1 ∙ ended.0));
    }

pub returns : goal.returns
returns g c =
    let at = c.loop-passed in
    let items = c.args.self.now in
    let before = at.self-inside.items in
    let after = c.take_front-2.new.self in
    let all : at._passed ≡ c.args.n = omega (arith, c.loop-passed-test.false, at.auto._passed-end) in
    record {
      step = nth-step c.args.n (min c.args.n (length items)) items before.items c.take_front-2.result after.items refl
          (at.invariant ∙ (ap (λ k. drop k items) all ∙ sym (drop_min c.args.n items)))
          (first-came before after c.take_front-2.result c.take_front-2.ensures);
    }
