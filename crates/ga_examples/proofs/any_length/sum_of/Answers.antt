use Rattle.generic_array.proofs.ActsLemmas.{sum_is_callable}
use Rattle.ga_examples.proofs.any_length.sum_of.Goals as goal
use Rattle.std.proofs.Common.{rules}

pub total_by-requires : goal.total_by-requires
total_by-requires g c =
    record {
      callable = sum_is_callable _ (λ x. x) _ _ _ _ 4294967296 (λ f a x b next call. search rules)
          (λ f a x less. search rules) (search rules);
    }
