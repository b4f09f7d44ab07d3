use Rattle.ga_headline.proofs.steps.walk.Goals as goal
use Rattle.generic_array.specs.Entries.{CallAt, MayCallAt}
use Rattle.generic_array.specs.Steps.{MaySteps}
use Rattle.std.proofs.Common.{subst, sym}

pub run_steps-requires : goal.run_steps-requires
run_steps-requires g c = record {
  callable = subst (λ items. MaySteps (MayCallAt (λ slice. slice.now) (goal.G-pre g))
      (CallAt (λ slice. slice.now) (goal.G-step g)) (items, c.args.look.now) c.args.steps.items)
      (sym c.into_two_ended-left.ensures) c.requires.callable;
}
