use Rattle.ga_core.proofs.DigitLemmas.{multiplied_more}
use Rattle.ga_core_examples.proofs.digits_in_place.put_digit.Goals as goal
use Rattle.std.proofs.Common.{arith, refl, rules}

pub loop-byte-preserved : goal.loop-byte-preserved
loop-byte-preserved c = (
  search (rules, arith),
  multiplied_more 256 58 _ _ _ _ _ _ _ _ c.loop-byte.invariant.1 refl (search rules) (search rules) (search (rules, arith)),
  search (rules, arith),
)
