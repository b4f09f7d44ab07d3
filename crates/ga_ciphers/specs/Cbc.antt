-- Cipher block chaining (NIST SP 800-38A, 6.2) over lists of bytes.
use Rattle.ga_ciphers.specs.Keystream.{under}
use Rattle.generic_array.specs.Rows.{rows}
use Rattle.std.specs.Prelude.{ℕ, List, [], ◌∷◌, ◌++◌}

module _ (change : List ℕ → List ℕ) where
  -- each block xor the one before it as encrypted, the first xor the vector, and this encrypted
  abbrev pub encrypted_blocks : List ℕ → List (List ℕ) → List ℕ
  encrypted_blocks vector [] = []
  encrypted_blocks vector (block ∷ blocks) =
      change (under vector block) ++ encrypted_blocks (change (under vector block)) blocks

  -- each block decrypted, and this xor the block before it, the first xor the vector
  abbrev pub decrypted_blocks : List ℕ → List (List ℕ) → List ℕ
  decrypted_blocks vector [] = []
  decrypted_blocks vector (block ∷ blocks) = under (change block) vector ++ decrypted_blocks block blocks

-- a text of whole blocks of the width
abbrev pub cbc_encrypted : (List ℕ → List ℕ) → ℕ → List ℕ → List ℕ → List ℕ
cbc_encrypted encrypted width vector text = encrypted_blocks encrypted vector (rows width text)

abbrev pub cbc_decrypted : (List ℕ → List ℕ) → ℕ → List ℕ → List ℕ → List ℕ
cbc_decrypted decrypted width vector text = decrypted_blocks decrypted vector (rows width text)
