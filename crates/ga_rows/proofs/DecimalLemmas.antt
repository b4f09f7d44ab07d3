-- The decimal text of a byte, by its number of digits.
use Rattle.std.proofs.Common.{◌≡◌, ℕ, ◌+◌, ◌/◌, ◌%◌, ◌<◌, ◌≤◌, [], ◌∷◌, ◌++◌, decimal, ap, ◌∙◌, arith}
use Rattle.std.proofs.lemmas.Fmt.{decimal_digit, decimal_step}

pub decimal-two_digits : (n : ℕ) → 10 ≤ n → n < 100 → decimal n ≡ (48 + n / 10) ∷ (48 + n % 10) ∷ []
decimal-two_digits n low high =
    decimal_step n low (omega arith) ∙ ap (λ front. front ++ (48 + n % 10) ∷ []) (decimal_digit (n / 10) (omega arith))

pub decimal-three_digits : (n : ℕ) → 100 ≤ n → n < 1000
    → decimal n ≡ (48 + n / 100) ∷ (48 + n / 10 % 10) ∷ (48 + n % 10) ∷ []
decimal-three_digits n low high =
    let tens : n / 10 / 10 ≡ n / 100 = omega arith in
    decimal_step n (omega arith) (omega arith)
    ∙ ap (λ front. front ++ (48 + n % 10) ∷ []) (decimal-two_digits (n / 10) (omega arith) (omega arith)
    ∙ ap (λ hundreds. (48 + hundreds) ∷ (48 + n / 10 % 10) ∷ []) tens)
