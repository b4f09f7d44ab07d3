-- Bits set next to each other, asked for by a mask, and masks of all bits and of none.
use Rattle.std.proofs.Common.{◌≡◌, ℕ, zero, suc, ◌+◌, ◌*◌, ◌/◌, ◌%◌, ◌<◌, ◌≤◌, ◌^◌, ◌∙◌, ap, arith, bit_and, bit_or, nat_eq, refl}
use Rattle.std.proofs.Common.{lit≤}
use Rattle.std.proofs.Math.Nat.{suc-mul}
use Rattle.std.proofs.lemmas.Bool.Decides.{nat_tests}
use Rattle.std.proofs.lemmas.Grind.{common_steps, low_zeros}
use Rattle.std.proofs.lemmas.Nat.{and_comm, one_shl, or_comm, or_shifted, pow_pos}
use Rattle.std.proofs.lemmas.Nat.Bits.{and_pow, bit_at_or, same_from_bits}
use native.Mathlib.Nat.{mod-eq_of_lt}

-- a multiple of a number above 0 is 0 where the factor is
zero_times : (b p : ℕ) → 0 < p → nat_eq (b * p) 0 ≡ nat_eq b 0
zero_times zero p some = let none : 0 * p ≡ 0 = omega arith in rw none refl
zero_times (suc b) zero some = absurd (omega (arith, some))
zero_times (suc b) (suc p) some =
    let more : suc b * suc p ≡ suc (p + b * suc p) = omega (arith, suc-mul b (suc p)) in
    rw more (grind (arith, nat_tests))

-- the order of two `|` is free
pub or_assoc : (c a b : ℕ) → bit_or (bit_or a b) c ≡ bit_or a (bit_or b c)
or_assoc c a b = same_from_bits _ _ (λ i.
    rw (bit_at_or (bit_or a b) c i, bit_at_or a b i, bit_at_or a (bit_or b c) i, bit_at_or b c i) (omega arith))

-- `n & 64`: a mask of one bit, written as a number
pub and_one_bit : (n m : ℕ) → suc m ≡ 2 ^ low_zeros 128 (suc m)
    → (bit_and n (suc m) ≡ n / suc m % 2 * suc m) × (n / suc m % 2 < 2)
and_one_bit n m one = (rw one (and_pow n (low_zeros 128 (suc m))), omega arith)

-- `n & (1 << k) == 0`, of a type that has `suc m` numbers
pub and_shifted_one : (n k m : ℕ) → suc m ≡ 2 ^ low_zeros 128 (suc m) → k < low_zeros 128 (suc m)
    → nat_eq (bit_and n (1 * 2 ^ k % suc m)) 0 ≡ nat_eq (n / 2 ^ k % 2) 0
and_shifted_one n k m one below = rw (one, one_shl k (low_zeros 128 (suc m)) below, and_pow n k)
    (zero_times (n / 2 ^ k % 2) (2 ^ k) (pow_pos k))

-- a byte under a mask of all bits, and of none
pub and_all : (n m : ℕ) → m ≡ 255 → n < 256 → bit_and n m ≡ n
and_all n m all fits = rw all (grind (arith, common_steps, fits))

pub and_none : (n m : ℕ) → m ≡ 0 → bit_and n m ≡ 0
and_none n m none = rw none (and_comm n 0)

pub or_none : (a b : ℕ) → b ≡ 0 → bit_or a b ≡ a
or_none a b none = rw none (or_comm a 0)

-- a number below a power of two, next to a multiple of it
next-to : (x c b : ℕ) → c ≡ 2 ^ low_zeros 128 c → b < c → bit_or (x * c) b ≡ x * c + b
next-to x c b power low = rw power (or_shifted x (low_zeros 128 c) b (omega (arith, low, power)))

at_most : (x c : ℕ) → x < 2 → x * c ≤ c
at_most zero c bit = omega arith
at_most (suc zero) c bit = omega arith
at_most (suc (suc x)) c bit = absurd (omega (arith, bit))

-- one bit more below those that are there
bit-more : (c d above p x : ℕ) → d ≡ 2 ^ low_zeros 128 d → d ≡ c * 2 → 0 < c → d < 256 → x < 2 → above ≡ p * d
    → bit_or above (x * c % 256) ≡ (p * 2 + x) * c
bit-more c d above p x power double some fits bit is =
    let small : x * c % 256 ≡ x * c = mod-eq_of_lt (omega (arith, at_most x c bit, double, fits)) in
    rw (is, small) (next-to p d (x * c) power (omega (arith, at_most x c bit, double, some)) ∙ rw double (omega arith))

-- eight bits next to each other
pub eight_bits : (a b c d e f g h : ℕ) → a < 2 → b < 2 → c < 2 → d < 2 → e < 2 → f < 2 → g < 2 → h < 2
    → bit_or (bit_or (bit_or (bit_or (bit_or (bit_or (bit_or (a * 128 % 256) (b * 64 % 256)) (c * 32 % 256))
    (d * 16 % 256)) (e * 8 % 256)) (f * 4 % 256)) (g * 2 % 256)) h
    ≡ a * 128 + b * 64 + c * 32 + d * 16 + e * 8 + f * 4 + g * 2 + h
eight_bits a b c d e f g h p q r s t u v w =
    let all : ((((((a * 2 + b) * 2 + c) * 2 + d) * 2 + e) * 2 + f) * 2 + g) * 2 + h
    ≡ a * 128 + b * 64 + c * 32 + d * 16 + e * 8 + f * 4 + g * 2 + h = omega arith in
    let seven = bit-more 2 4 _ _ g refl refl (lit≤ tt) (lit≤ tt) v
    (bit-more 4 8 _ _ f refl refl (lit≤ tt) (lit≤ tt) u
    (bit-more 8 16 _ _ e refl refl (lit≤ tt) (lit≤ tt) t
    (bit-more 16 32 _ _ d refl refl (lit≤ tt) (lit≤ tt) s
    (bit-more 32 64 _ _ c refl refl (lit≤ tt) (lit≤ tt) r
    (bit-more 64 128 _ a b refl refl (lit≤ tt) (lit≤ tt) q (mod-eq_of_lt (omega (arith, p)))))))) in
    ap (λ y. bit_or y h) seven ∙ (next-to ((((((a * 2 + b) * 2 + c) * 2 + d) * 2 + e) * 2 + f) * 2 + g) 2 h refl w ∙ all)

pub ruleset bits = (common_steps, or_assoc, eight_bits, and_one_bit, and_shifted_one, and_all, and_none, or_none)
