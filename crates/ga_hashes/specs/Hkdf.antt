-- HKDF (RFC 5869) over lists of bytes.
use Rattle.ga_hashes.specs.Hmac.{hmac_of}
use Rattle.std.specs.Int.{div_ceil}
use Rattle.std.specs.Prelude.{◌≡◌, ℕ, zero, suc, ◌+◌, ◌-◌, ◌*◌, List, [], ◌∷◌, ◌++◌, drop, length, take}

module _ (digest : List ℕ → List ℕ) (block : ℕ) (key info : List ℕ) where
  -- T(i): nothing at 0, then the tag under the key of the one before, the info and the byte i
  unfoldable pub output_block : ℕ → List ℕ
  output_block zero = []
  output_block (suc i) = hmac_of digest block key (output_block i ++ (info ++ (suc i ∷ [])))

  -- T(1) to T(n), joined
  unfoldable pub output_blocks : ℕ → List ℕ
  output_blocks zero = []
  output_blocks (suc n) = output_blocks n ++ output_block (suc n)

  -- an output into which the first n blocks, each of this size, were written as far as it goes
  pub record BeginsWithBlocks (size n : ℕ) (output : List ℕ) : Type 0 where
    pub begun : take (length (output_blocks n)) output ≡ take (length output) (output_blocks n)
    pub len : length (output_blocks n) ≡ n * size
    pub last : drop (n * size - size) (output_blocks n) ≡ output_block n

-- the key material of this length: the beginning of as many blocks as it takes
abbrev pub expanded : (List ℕ → List ℕ) → ℕ → ℕ → List ℕ → List ℕ → ℕ → List ℕ
expanded digest block size key info len = take len (output_blocks digest block key info (div_ceil len size))

-- bytes written over others from a place on, as far as those go
abbrev pub written_at : ℕ → List ℕ → List ℕ → List ℕ
written_at at bytes output = take at output ++ (take (length output - at) bytes ++ drop (at + length bytes) output)
