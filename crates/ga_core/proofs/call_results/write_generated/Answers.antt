use Rattle.ga_core.proofs.NextCalls.{run-of_numbers}
use Rattle.ga_core.proofs.call_results.write_generated.Goals as goal
use Rattle.ga_core.specs.Runs.{ClosureRun}
use Rattle.std.proofs.Common.{◌∙◌, arith}

pub write_some-requires-clause-callable : goal.write_some-requires-clause-callable
write_some-requires-clause-callable g c = (
  c.args.f.now,
  λ k ys reached below. c.requires.callable k ys reached (omega (arith, below, c.loop-slots.auto.slots)),
  c.loop-slots.invariant.ran,
)

pub loop-slots-preserved : goal.loop-slots-preserved
loop-slots-preserved g c = record {
  within = omega (arith, c.write_some.auto.slots);
  ran = c.write_some.ensures.run c.args.f.now c.loop-slots.invariant.ran;
}

pub write_some-requires-2-clause-callable : goal.write_some-requires-2-clause-callable
write_some-requires-2-clause-callable g c = (
  c.args.f.now,
  λ k ys reached below. c.requires.callable k ys reached (omega (arith, below, c.loop-slots.auto.slots)),
  c.loop-slots.invariant.ran,
)

pub returns : goal.returns
returns g c = record {
  run = run-of_numbers (λ numbers made. ClosureRun (goal.F-step g) c.args.f.now numbers made c.write_some-2.new.f)
      c.write_some-2.new.slots (omega (arith, c.loop-slots.auto.slots)) (omega (arith, c.loop-slots.auto.slots))
      (c.write_some-2.auto.slots ∙ c.loop-slots.auto.slots)
      (c.write_some-2.ensures.run c.args.f.now c.loop-slots.invariant.ran);
}
