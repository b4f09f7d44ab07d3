use Rattle.ga_core.proofs.CutLemmas.{nth-past, nth-step}
use Rattle.ga_core.proofs.NextCalls.{place-in}
use Rattle.ga_core.proofs.array_iter.GenericArrayIter.nth.Goals as goal
use Rattle.std.proofs.Common.{Some, arith, drop, refl, sym}

pub returns-then-n-len : goal.returns-then-n-len
returns-then-n-len g c = record {
  step = nth-step c.args.n c.args.n c.args.self.now (drop c.args.n c.args.self.now) (Some c.take_behind.result)
      c.take_behind.new.self (omega (arith, c.len.ensures)) refl c.take_behind.ensures;
}

pub returns-else-n-len : goal.returns-else-n-len
returns-else-n-len g c = record {
  step = nth-past c.args.n c.args.self.now c.drop_left.new.self (omega (arith, c.len.ensures, c.if-n-len.false))
      c.drop_left.ensures;
}

pub take_behind-requires : goal.take_behind-requires
take_behind-requires g c = record { enough = place-in c.if-n-len.true (sym c.len.ensures) }
