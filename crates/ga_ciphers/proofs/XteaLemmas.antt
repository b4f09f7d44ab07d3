-- XTEA, there and back.
use Rattle.ga_ciphers.specs.Xtea.{block_of, change, cycle, cycle_back, cycles, cycles_back, first_word, halves_of}
use Rattle.ga_ciphers.specs.Xtea.{second_word, sub32}
use Rattle.rand_chacha.specs.Block.{add32}
use Rattle.std.proofs.Common.{◌≡◌, ℕ, zero, suc, ◌+◌, ◌*◌, ◌^◌, ◌<◌, List, ap, arith, get_or, length, lit<, refl, ◌∙◌}
use Rattle.std.proofs.Common.{mod-lt}
use Rattle.std.proofs.lemmas.Nat.{be_bytes_8, div-mul-add, from_be_bytes-to_be_bytes_8, mod-mul-add, xor_lt}
use Rattle.std.specs.Int.{from_be_bytes, to_be_bytes, w64}

-- a difference undoes a sum
sub32-add32 : (a f : ℕ) → a < 2 ^ 32 → f < 2 ^ 32 → sub32 (add32 a f) f ≡ a
sub32-add32 a f small other = omega arith

change-lt : (other word : ℕ) → word < 2 ^ 32 → change other word < 2 ^ 32
change-lt other word small = xor_lt 32 _ word (mod-lt _ (lit< tt)) small

-- a cycle back undoes the cycle
cycle-undone : (key : List ℕ) (number l r : ℕ) → l < 2 ^ 32 → r < 2 ^ 32
    → cycle_back key number (cycle key number (l, r)) ≡ (l, r)
unfolding cycle cycle_back
cycle-undone key number l r left right =
    let first = change r (first_word key number) in
    let second = change (add32 l first) (second_word key number) in
    let right_is : sub32 (add32 r second) second ≡ r =
    sub32-add32 r second right (change-lt _ _ (mod-lt _ (lit< tt))) in
    let left_is : sub32 (add32 l first) first ≡ l =
    sub32-add32 l first left (change-lt _ _ (mod-lt _ (lit< tt))) in
    rw (right_is, left_is) refl

-- both halves are words
abbrev pub AreWords : ℕ × ℕ → Type 0
AreWords halves = (halves.0 < 2 ^ 32) × (halves.1 < 2 ^ 32)

cycles-words : (key : List ℕ) (n : ℕ) (halves : ℕ × ℕ) → AreWords halves → AreWords (cycles key n halves)
unfolding cycles cycle
cycles-words key zero halves are = are
cycles-words key (suc n) halves are = (mod-lt _ (lit< tt), mod-lt _ (lit< tt))

-- cycles back undo the cycles
pub cycles-undone : (key : List ℕ) (n : ℕ) (halves : ℕ × ℕ) → AreWords halves
    → cycles_back key n (cycles key n halves) ≡ halves
unfolding cycles cycles_back
cycles-undone key zero halves are = refl
cycles-undone key (suc n) halves are =
    let words = cycles-words key n halves are in
    ap (cycles_back key n) (cycle-undone key n (cycles key n halves).0 (cycles key n halves).1 words.0 words.1)
    ∙ cycles-undone key n halves are

-- the halves of a block of halves
pub halves-block : (halves : ℕ × ℕ) → AreWords halves → halves_of (block_of halves) ≡ halves
unfolding halves_of block_of
halves-block halves are =
    let number = halves.0 * 2 ^ 32 + halves.1 in
    let back : from_be_bytes w64 (to_be_bytes w64 number) ≡ number =
    from_be_bytes-to_be_bytes_8 number (omega (arith, are.0, are.1)) in
    rw (back, div-mul-add halves.0 (2 ^ 32) halves.1 are.1, mod-mul-add halves.0 (2 ^ 32) halves.1 are.1) refl

-- the block of a block's halves
pub block-halves : (block : List ℕ) → length block ≡ 8 → ((place : ℕ) → get_or block place 0 < 256)
    → block_of (halves_of block) ≡ block
unfolding halves_of block_of
block-halves block long bytes = be_bytes_8 block _ long bytes (omega arith)
