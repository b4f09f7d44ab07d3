use Rattle.ga_core_examples.proofs.digits_in_place.ten_digits.Given as goal
use Rattle.ga_core.specs.Digits.{number_low}
use Rattle.std.proofs.Common.{◌≡◌, ◌+◌, ◌*◌, ◌^◌, length}

-- the digits so far and what is left are the number
abbrev pub invariant-loop : goal.invariant-loop
invariant-loop l = (length l.digits ≡ l.counter) × (number_low 10 l.digits + 10 ^ l.counter * l.left ≡ l.number)
