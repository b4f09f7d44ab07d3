use Rattle.ga_core.proofs.CutLemmas.{next_back-reversed, nth_back-past, nth_back-step, passed-more}
use Rattle.ga_boxed.proofs.boxed_array_iter.BoxedArrayIter.nth_back.Goals as goal
use Rattle.ga_boxed.proofs.BlockLemmas.{last-came}
use Rattle.std.proofs.Common.{◌≡◌, ◌∙◌, ap, arith, drop, length, length-drop, min, reverse, sym}
use Rattle.std.proofs.lemmas.List.{drop_min, length-reverse}

pub loop-passed_back-preserved : goal.loop-passed_back-preserved
loop-passed_back-preserved g c =
    let at = c.loop-passed_back in
    let before = at.self-inside.items in
    let after = c.take_back.new.self in
    passed-more at._passed_back (reverse c.args.self.now) (reverse before.items) c.take_back.result (reverse after.items)
    at.invariant (next_back-reversed before.items c.take_back.result after.items
    (last-came before after c.take_back.result c.take_back.ensures))

pub returns-in_err-take_back : goal.returns-in_err-take_back
returns-in_err-take_back g c =
    let at = c.loop-passed_back in
    let items = c.args.self.now in
    let ended = c.in_err-take_back.ensures in
    let gone = ap (λ left. length (reverse left)) ended.0 in
    record {
      step = rw c.from_residual.ensures (nth_back-past c.args.n items c.take_back.new.self.items
          (omega (arith, length-drop at._passed_back (reverse items), ap length at.invariant, length-reverse items))
          (ap (λ block. block.items) ended.1 ∙ ended.0));
    }

pub returns : goal.returns
returns g c =
    let at = c.loop-passed_back in
    let items = c.args.self.now in
    let before = at.self-inside.items in
    let after = c.take_back-2.new.self in
    let all : at._passed_back ≡ c.args.n = omega (arith, c.loop-passed_back-test.false, at.auto._passed_back-end) in
    let least : min c.args.n (length (reverse items)) ≡ min c.args.n (length items) =
    ap (λ k. min c.args.n k) (length-reverse items) in
    record {
      step = nth_back-step c.args.n (min c.args.n (length (reverse items))) items before.items c.take_back-2.result
          after.items least
          (at.invariant ∙ (ap (λ k. drop k (reverse items)) all ∙ sym (drop_min c.args.n (reverse items))))
          (last-came before after c.take_back-2.result c.take_back-2.ensures);
    }
