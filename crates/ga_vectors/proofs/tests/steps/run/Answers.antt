use Rattle.generic_array.proofs.StepLemmas.{MaySteps-always}
use Rattle.ga_vectors.proofs.tests.steps.run.Goals as goal
use Rattle.std.proofs.Common.{rules}

pub run_steps-requires : goal.run_steps-requires
run_steps-requires g c =
    record { callable = MaySteps-always _ _ (λ f items slice same. search rules) c.args.steps.items _ }
