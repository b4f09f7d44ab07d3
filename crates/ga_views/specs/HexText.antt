-- Hex text: two digits for each byte, the high half first.
use Rattle.hex.specs.Hex.{encode_with, lower_digits, upper_digits}
use Rattle.std.specs.Prelude.{ℕ, Bool, if◌then◌else◌, List, None, Option, Some, take}

-- all digits, in lower or in upper case
abbrev pub hex_digits : Bool → List ℕ → List ℕ
hex_digits upper bytes = encode_with (if upper then upper_digits else lower_digits) bytes

-- the digits, cut to the limit where there is one
abbrev pub hex_text : Bool → Option ℕ → List ℕ → List ℕ
hex_text upper None bytes = hex_digits upper bytes
hex_text upper (Some limit) bytes = take limit (hex_digits upper bytes)
