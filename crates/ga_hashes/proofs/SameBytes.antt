-- Two lists of bytes are the same where no bit of theirs differs.
use Rattle.ga_hashes.specs.Differing.{differing}
use Rattle.std.proofs.Common.{◌≡◌, ◌∙◌, ℕ, List, [], ◌∷◌, length, refl, ap, arith}
use Rattle.std.proofs.lemmas.Nat.{and_le_l, and_le_r, le_or_l, le_or_r}
use Rattle.std.specs.Int.Bits.{bit_or, bit_xor, or_zero_l, xor_add_and, xor_self}

-- numbers in which no bit differs are one number
same-from_xor : (a b : ℕ) → bit_xor a b ≡ 0 → a ≡ b
same-from_xor a b none = omega (arith, none, xor_add_and a b, and_le_l a b, and_le_r a b)

-- lists of one length are the same where `seen`, with all their differing bits, is 0
same-from_none : (seen : ℕ) (left right : List ℕ) → length left ≡ length right → differing seen left right ≡ 0
    → (seen ≡ 0) × (left ≡ right)
same-from_none seen [] [] len none = (none, refl)
same-from_none seen [] (r ∷ right) len none = absurd (omega (arith, len))
same-from_none seen (l ∷ left) [] len none = absurd (omega (arith, len))
same-from_none seen (l ∷ left) (r ∷ right) len none =
    let more = same-from_none (bit_or seen (bit_xor l r)) left right (omega (arith, len)) none in
    let same : l ≡ r = same-from_xor l r (omega (arith, more.0, le_or_r seen (bit_xor l r))) in
    (omega (arith, more.0, le_or_l seen (bit_xor l r)), cc (same, more.1))

-- a list has no bit that differs from its own
none-from_same : (bytes : List ℕ) → differing 0 bytes bytes ≡ 0
none-from_same [] = refl
none-from_same (b ∷ bytes) =
    let none : bit_or 0 (bit_xor b b) ≡ 0 = or_zero_l (bit_xor b b) ∙ xor_self b in
    ap (λ seen. differing seen bytes bytes) none ∙ none-from_same bytes

-- lists of one length are the same exactly where no bit differs
pub same-where_none : (left right : List ℕ) → length left ≡ length right → differing 0 left right ≡ 0 → left ≡ right
same-where_none left right len none = (same-from_none 0 left right len none).1

pub none-where_same : (left right : List ℕ) → left ≡ right → differing 0 left right ≡ 0
none-where_same left right same = ap (λ bytes. differing 0 bytes right) same ∙ none-from_same right

pub ruleset same_bytes_facts = (same-where_none, none-where_same)
