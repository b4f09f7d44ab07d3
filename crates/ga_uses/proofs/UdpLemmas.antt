-- Words of bytes, by pieces and by rows of two, and their sums.
use Rattle.generic_array.proofs.RowLemmas.{chunk_rest-first, rows-first}
use Rattle.generic_array.specs.Rows.{chunk_rest, rows}
use Rattle.ga_uses.specs.Udp.{field_of, header_of, number_of, ones_complement_sum, sum_with_carry, summed_bytes, words}
use Rattle.std.proofs.Common.{◌≡◌, ℕ, zero, suc, ◌+◌, ◌*◌, ◌<◌, ◌≤◌, ◌/◌, ◌%◌, ◌^◌, List, [], ◌∷◌, ◌++◌, get_or, length}
use Rattle.std.proofs.Common.{map, refl, sym, ◌∙◌, ap, arith, fold}
use Rattle.std.proofs.lemmas.Grind.{fold-append}

-- the words of an even number of bytes, and those of what follows
pub words-append : (n : ℕ) (xs ys : List ℕ) → length xs ≡ n + n → words (xs ++ ys) ≡ words xs ++ words ys
words-append n [] ys even = refl
words-append n (x ∷ []) ys even = absurd (omega (arith, even))
words-append zero (x ∷ y ∷ xs) ys even = absurd (omega (arith, even))
words-append (suc n) (x ∷ y ∷ xs) ys even = ap (λ ws. (x * 2 ^ 8 + y) ∷ ws) (words-append n xs ys (omega (arith, even)))

-- the words are those of the rows of two bytes, and of the rest
pub words-rows : (xs : List ℕ) → words xs ≡ map number_of (rows 2 xs) ++ words (chunk_rest 2 xs)
words-rows [] = refl
words-rows (x ∷ []) = refl
words-rows (x ∷ y ∷ xs) =
    let first = rows-first {X = ℕ} 2 (x ∷ y ∷ xs) (omega arith) (omega arith) in
    let rest = chunk_rest-first {X = ℕ} 2 (x ∷ y ∷ xs) (omega arith) (omega arith) in
    ap (λ ws. (x * 2 ^ 8 + y) ∷ ws) (words-rows xs)
    ∙ sym (ap (λ r. map number_of r ++ words (chunk_rest 2 (x ∷ y ∷ xs))) first
    ∙ ap (λ r. (x * 2 ^ 8 + y) ∷ (map number_of (rows 2 xs) ++ words r)) rest)

-- the sum over the rows' numbers, and then over the rest
pub fold-rows : (xs : List ℕ) (sum : ℕ) → fold sum_with_carry sum (words xs)
    ≡ fold sum_with_carry (fold sum_with_carry sum (map number_of (rows 2 xs))) (words (chunk_rest 2 xs))
fold-rows xs sum = ap (fold sum_with_carry sum) (words-rows xs)
    ∙ fold-append sum_with_carry sum (map number_of (rows 2 xs)) (words (chunk_rest 2 xs))

-- the sum over a piece of an even number of bytes, and then over what follows
pub fold-pieces : (n : ℕ) (xs ys : List ℕ) (sum : ℕ) → length xs ≡ n + n
    → fold sum_with_carry sum (words (xs ++ ys)) ≡ fold sum_with_carry (fold sum_with_carry sum (words xs)) (words ys)
fold-pieces n xs ys sum even = ap (fold sum_with_carry sum) (words-append n xs ys even)
    ∙ fold-append sum_with_carry sum (words xs) (words ys)

-- the two bytes of a number give it back
rejoined : (n : ℕ) → n / 2 ^ 8 * 2 ^ 8 + n % 2 ^ 8 ≡ n
rejoined n = omega arith

-- the sum, piece by piece: addresses, the words between them and the payload, and the payload
pub summed : (from to payload : List ℕ) (len source destination : ℕ) → length from ≡ 4 → length to ≡ 4
    → len ≡ 8 + length payload → fold sum_with_carry
    (fold sum_with_carry (fold sum_with_carry (fold sum_with_carry 0 (words from)) (words to))
    (17 ∷ len ∷ source ∷ destination ∷ len ∷ 0 ∷ [])) (words payload)
    ≡ ones_complement_sum (summed_bytes from to source destination payload)
summed from to payload len source destination four_from four_to is =
    let behind = 0 ∷ 17 ∷ field_of len ++ (header_of source destination len 0 ++ payload) in
    let first = fold-pieces 2 from (to ++ behind) 0 four_from in
    let second = fold-pieces 2 to behind (fold sum_with_carry 0 (words from)) four_to in
    let third : words behind ≡ 17 ∷ len ∷ source ∷ destination ∷ len ∷ 0 ∷ words payload =
    λ i. 17 ∷ rejoined len i ∷ rejoined source i ∷ rejoined destination i ∷ rejoined len i ∷ 0 ∷ words payload in
    rw (← is) (sym (first ∙ (second
    ∙ ap (fold sum_with_carry (fold sum_with_carry (fold sum_with_carry 0 (words from)) (words to))) third)))

one_left : (rest : List ℕ) → 1 ≤ length rest → length rest < 2 → words rest ≡ (get_or rest 0 0 * 2 ^ 8) ∷ []
one_left [] least most = absurd (omega (arith, least))
one_left (x ∷ []) least most = refl
one_left (x ∷ y ∷ rest) least most = absurd (omega (arith, most))

none_left : (rest : List ℕ) → length rest < 1 → words rest ≡ []
none_left [] most = refl
none_left (x ∷ rest) most = absurd (omega (arith, most))

-- the total over whole rows is that of all bytes, once the byte that is left is added
module _ (xs whole rest : List ℕ) (same : rows 2 whole ≡ rows 2 xs) (left : rest ≡ chunk_rest 2 xs) (sum total : ℕ)
    (is : total ≡ fold sum_with_carry sum (map number_of (rows 2 whole))) where
  all : fold sum_with_carry sum (words xs) ≡ fold sum_with_carry total (words rest)
  all = rw (left, is, same) (fold-rows xs sum)

  pub total-one : 1 ≤ length rest → length rest < 2
      → sum_with_carry total (get_or rest 0 0 * 2 ^ 8) ≡ fold sum_with_carry sum (words xs)
  total-one least most = sym (all ∙ ap (fold sum_with_carry total) (one_left rest least most))

  pub total-none : length rest < 1 → total ≡ fold sum_with_carry sum (words xs)
  total-none most = sym (all ∙ ap (fold sum_with_carry total) (none_left rest most))
