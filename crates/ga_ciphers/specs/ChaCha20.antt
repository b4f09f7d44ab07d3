-- ChaCha20 (RFC 8439, 2.1 to 2.3) over lists of words and bytes. A word is a number below 2 ^ 32.
use Rattle.generic_array.specs.Rows.{rows}
use Rattle.rand_chacha.specs.Block.{add32, double_rounds}
use Rattle.std.specs.Int.{from_le_bytes, to_le_bytes, w32}
use Rattle.std.specs.List.{flat_map, zip}
use Rattle.std.specs.Prelude.{ℕ, List, ◌∷◌, ◌++◌, map, slice_set}

-- the words of bytes, each of four, the low byte first
abbrev pub words_of : List ℕ → List ℕ
words_of bytes = map (from_le_bytes w32) (rows 4 bytes)

-- and the bytes of words
abbrev pub bytes_of_words : List ℕ → List ℕ
bytes_of_words words = flat_map (to_le_bytes w32) words

-- the constants, the words of the key, the counter 0, and the words of the nonce (2.3)
abbrev pub initial_state : List ℕ → List ℕ → List ℕ
initial_state key nonce =
    0x61707865 ∷ 0x3320646e ∷ 0x79622d32 ∷ 0x6b206574 ∷ words_of key ++ (0 ∷ words_of nonce)

-- the state with the counter at this number
abbrev pub state_at : List ℕ → ℕ → List ℕ
state_at state number = slice_set state 12 number

-- the block of this number: the bytes of the state after ten double rounds, each word plus the word that it began as
-- (2.3)
abbrev pub chacha20_block : List ℕ → ℕ → List ℕ
chacha20_block state number =
    let first = state_at state number in
    bytes_of_words (map (λ pair. add32 pair.0 pair.1) (zip (double_rounds 10 first) first))
