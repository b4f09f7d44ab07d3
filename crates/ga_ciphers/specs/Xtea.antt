-- XTEA (Needham and Wheeler, "Tea extensions", 1997) over words. A word is a number below 2 ^ 32.
use Rattle.generic_array.specs.Rows.{rows}
use Rattle.rand_chacha.specs.Block.{add32}
use Rattle.std.specs.Int.{from_be_bytes, to_be_bytes, w32, w64}
use Rattle.std.specs.Prelude.{ℕ, zero, suc, ◌+◌, ◌-◌, ◌*◌, ◌/◌, ◌%◌, ◌^◌, List, bit_xor, map, slice_index}

-- the words of a key, each of four bytes, the high byte first
abbrev pub key_words : List ℕ → List ℕ
key_words key = map (from_be_bytes w32) (rows 4 key)

-- the two halves of a block, and the block of two halves
unfoldable pub halves_of : List ℕ → ℕ × ℕ
halves_of block = let number = from_be_bytes w64 block in (number / 2 ^ 32, number % 2 ^ 32)

unfoldable pub block_of : ℕ × ℕ → List ℕ
block_of halves = to_be_bytes w64 (halves.0 * 2 ^ 32 + halves.1)

-- the difference of two words, with the borrow dropped
abbrev pub sub32 : ℕ → ℕ → ℕ
sub32 x y = (x + (2 ^ 32 - y)) % 2 ^ 32

-- what a round adds to one half: of the other half, and a word of the key's
abbrev pub change : ℕ → ℕ → ℕ
change other word = bit_xor (add32 (bit_xor (other * 2 ^ 4 % 2 ^ 32) (other / 2 ^ 5)) other) word

-- so many times the constant delta
abbrev pub delta_times : ℕ → ℕ
delta_times number = 0x9e3779b9 * number % 2 ^ 32

-- the words of the key's for the two rounds of the cycle of this number
module _ (key : List ℕ) (number : ℕ) where
  abbrev pub first_word : ℕ
  first_word = let sum = delta_times number in add32 sum (slice_index key (sum % 4))

  abbrev pub second_word : ℕ
  second_word = let sum = delta_times (number + 1) in add32 sum (slice_index key (sum / 2 ^ 11 % 4))

  -- a cycle is two rounds, the first on the left half, the second on the right
  unfoldable pub cycle : ℕ × ℕ → ℕ × ℕ
  cycle halves =
      let left = add32 halves.0 (change halves.1 first_word) in
      (left, add32 halves.1 (change left second_word))

  -- and the same back
  unfoldable pub cycle_back : ℕ × ℕ → ℕ × ℕ
  cycle_back halves =
      let right = sub32 halves.1 (change halves.0 second_word) in
      (sub32 halves.0 (change right first_word), right)

-- the halves after n cycles
unfoldable pub cycles : List ℕ → ℕ → ℕ × ℕ → ℕ × ℕ
cycles key zero halves = halves
cycles key (suc n) halves = cycle key n (cycles key n halves)

-- the halves before n cycles
unfoldable pub cycles_back : List ℕ → ℕ → ℕ × ℕ → ℕ × ℕ
cycles_back key zero halves = halves
cycles_back key (suc n) halves = cycles_back key n (cycle_back key n halves)

-- a block after 32 cycles, and before them
abbrev pub xtea_encrypted : List ℕ → List ℕ → List ℕ
xtea_encrypted key block = block_of (cycles key 32 (halves_of block))

abbrev pub xtea_decrypted : List ℕ → List ℕ → List ℕ
xtea_decrypted key block = block_of (cycles_back key 32 (halves_of block))
