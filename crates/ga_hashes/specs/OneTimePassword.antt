-- One-time passwords (RFC 4226 and 6238) over lists of bytes.
use Rattle.ga_hashes.specs.Hmac.{hmac_of}
use Rattle.ga_hashes.specs.declared.one_time_password.Digits.{Digits}
use Rattle.ga_hashes.specs.declared.one_time_password.Digits.TheVariants.{Six, Seven, Eight}
use Rattle.std.specs.Int.{from_be_bytes, to_be_bytes, w32, w64}
use Rattle.std.specs.Prelude.{ℕ, ◌-◌, ◌%◌, ◌^◌, List, drop, length, slice_index, take}

-- how many digits a code has
abbrev pub digit_count : Digits → ℕ
digit_count Six = 6
digit_count Seven = 7
digit_count Eight = 8

-- where the four bytes of a tag stand that make the code: the low four bits of its last byte
abbrev pub offset_of : List ℕ → ℕ
offset_of tag = slice_index tag (length tag - 1) % 2 ^ 4

-- those bytes as a number, high byte first, without the highest bit
abbrev pub truncation : List ℕ → ℕ
truncation tag = from_be_bytes w32 (take 4 (drop (offset_of tag) tag)) % 2 ^ 31

-- the code of a counter under a key: the last decimal digits of that number
abbrev pub code_of : (List ℕ → List ℕ) → ℕ → List ℕ → ℕ → ℕ → ℕ
code_of digest block key counter digits = truncation (hmac_of digest block key (to_be_bytes w64 counter)) % 10 ^ digits
