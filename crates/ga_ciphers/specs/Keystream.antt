-- A key stream in blocks of one width, and texts under a key.
use Rattle.std.specs.List.{range_with_len, zip}
use Rattle.std.specs.Prelude.{◌≡◌, ◌≢◌, ℕ, ◌/◌, ◌%◌, List, bit_xor, map, slice_index}

-- the byte at a place of the key stream: block number place / width has it
abbrev pub key_byte : (ℕ → List ℕ) → ℕ → ℕ → ℕ
key_byte block width place = slice_index (block (place / width)) (place % width)

-- the bytes of the key stream at the places from, from + 1, .., as many as counted
abbrev pub key_bytes : (ℕ → List ℕ) → ℕ → ℕ → ℕ → List ℕ
key_bytes block width from count = map (key_byte block width) (range_with_len from count)

-- each byte of the text, xor the key's at the same place
abbrev pub under : List ℕ → List ℕ → List ℕ
under text key = map (λ pair. bit_xor pair.0 pair.1) (zip text key)

-- unless a block starts at the place, the kept block is the one there
abbrev pub IsCurrent : (ℕ → List ℕ) → ℕ → ℕ → List ℕ → Type 0
IsCurrent block width position kept = position % width ≢ 0 → kept ≡ block (position / width)
