use Rattle.ga_core.proofs.CutLemmas.{nth_back-past, nth_back-step, reverse-take}
use Rattle.ga_core.proofs.array_iter.GenericArrayIter.nth_back.Goals as goal
use Rattle.std.proofs.Common.{◌≡◌, ◌-◌, ◌∙◌, Some, ap, arith, length, reverse, take}

pub returns-then-n-len : goal.returns-then-n-len
returns-then-n-len g c =
    let items = c.args.self.now in
    let left = ap reverse c.pass_back.ensures ∙ reverse-take items (length items - c.args.n) c.args.n
    (omega (arith, c.len.ensures)) in
    record {
      step = nth_back-step c.args.n c.args.n items c.pass_back.new.self (Some c.take_last.result) c.take_last.new.self
          (omega (arith, c.len.ensures)) left c.take_last.ensures;
    }

pub returns-else-n-len : goal.returns-else-n-len
returns-else-n-len g c =
    let items = c.args.self.now in
    let none : length items - c.len-left.result ≡ 0 = omega (arith, c.len-left.ensures) in
    record {
      step = nth_back-past c.args.n items c.pass_back-else-n-len.new.self
          (omega (arith, c.len.ensures, c.if-n-len.false)) (c.pass_back-else-n-len.ensures ∙ ap (λ k. take k items) none);
    }
