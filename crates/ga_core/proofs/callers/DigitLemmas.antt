-- Digits of a number that change in place, one after the other.
use Rattle.ga_core.specs.Digits.{number_low}
use Rattle.std.proofs.Common.{◌≡◌, ℕ, ◌+◌, ◌*◌, ◌^◌, ◌<◌, List, [], ◌∷◌, ◌++◌, ap, arith, get_or, length, refl, take, ◌∙◌}
use Rattle.std.proofs.Math.ListN.{set}
use Rattle.std.proofs.Math.Nat.{pow-suc, pow-zero}
use Rattle.std.proofs.lemmas.List.{length-take-le, take_more, take_more_set}
use Rattle.std.proofs.lemmas.Nat.{pow-add}

module _ (base : ℕ) where
  -- one digit more of a number
  pub number_low-more : (digit : ℕ) (digits : List ℕ)
      → number_low base (digits ++ digit ∷ []) ≡ number_low base digits + base ^ length digits * digit
  number_low-more digit [] = rw pow-zero (omega arith)
  number_low-more digit (first ∷ digits) =
      let more = number_low-more digit digits in
      rw (more, pow-suc base (length digits)) (omega arith)

  next-power : (i : ℕ) → base ^ (i + 1) ≡ base ^ i * base
  next-power i =
      let one : base ^ 1 ≡ base = rw (pow-suc base 0, pow-zero base) (omega arith) in
      rw (pow-add base i 1, one) refl

-- what one place more comes to, of numbers alone: multiplied, and taken off
multiplied : (p b m low high byte over a c digit : ℕ) → high * b + low ≡ byte * m + over → a + p * over ≡ m * c + digit
    → (a + p * low) + (p * b) * high ≡ m * (c + p * byte) + digit
multiplied p b m low high byte over a c digit parts so_far =
    let all : p * (high * b + low) ≡ p * (byte * m + over) = ap (λ x. p * x) parts in
    omega (arith, all, so_far)

off : (p b digit old new a number : ℕ) → new * b + digit ≡ old → a + p * old ≡ number
    → (a + p * digit) + (p * b) * new ≡ number
off p b digit old new a number parts so_far =
    let all : p * (new * b + digit) ≡ p * old = ap (λ x. p * x) parts in
    omega (arith, all, so_far)

-- one place more is multiplied by m: low is left there, and high goes over
pub multiplied_more : (b m next i low high over digit : ℕ) (before now : List ℕ)
    → number_low b (take i now) + b ^ i * over ≡ m * number_low b (take i before) + digit → next ≡ i + 1
    → i < length before → i < length now → high * b + low ≡ get_or before i 0 * m + over
    → number_low b (take next (set now i low)) + b ^ next * high ≡ m * number_low b (take next before) + digit
multiplied_more b m next i low high over digit before now so_far step inside room parts =
    let written = ap (number_low b) (take_more_set now i low room) ∙ number_low-more b low (take i now) in
    let read = ap (number_low b) (take_more before i 0 inside) ∙ number_low-more b (get_or before i 0) (take i before) in
    let here : length (take i now) ≡ i = length-take-le i now (omega (arith, room)) in
    let there : length (take i before) ≡ i = length-take-le i before (omega (arith, inside)) in
    rw (step, written, read, here, there, next-power b i)
    (multiplied (b ^ i) b m low high (get_or before i 0) over (number_low b (take i now)) (number_low b (take i before))
    digit parts so_far)

-- one digit more is taken off a number, the lowest first
pub taken_more : (b old left digit place next number : ℕ) (digits more : List ℕ)
    → number_low b digits + b ^ place * old ≡ number → more ≡ digits ++ digit ∷ [] → place ≡ length digits
    → next ≡ place + 1 → left * b + digit ≡ old → number_low b more + b ^ next * left ≡ number
taken_more b old left digit place next number digits more so_far pushed long step parts =
    rw (pushed, step, number_low-more b digit digits, ← long, next-power b place)
    (off (b ^ place) b digit old left (number_low b digits) number parts so_far)

pub ruleset digits = (multiplied_more, taken_more)
