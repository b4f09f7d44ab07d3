-- Padding that holds its own length (PKCS #7; RFC 5652, 6.3).
use Rattle.std.specs.Prelude.{◌≡◌, ℕ, ◌<◌, List, ◌++◌, replicate}

-- the bytes, and then so many times the byte that says how many
abbrev pub padded : List ℕ → ℕ → List ℕ
padded bytes missing = bytes ++ replicate missing missing

-- it ends in a padding of at least one byte
abbrev pub IsPadded : List ℕ → Type 0
IsPadded block = (bytes : List ℕ) × (missing : ℕ) × (0 < missing) × (block ≡ padded bytes missing)
