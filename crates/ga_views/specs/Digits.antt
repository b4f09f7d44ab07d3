-- Digits that are still to be written.
use Rattle.ga_views.specs.HexText.{hex_digits}
use Rattle.ga_views.specs.declared.hex_text.Digits.{Digits}
use Rattle.std.specs.Prelude.{ℕ, List, take}

abbrev pub digits_left : Digits → List ℕ
digits_left digits = take digits.count (hex_digits digits.upper digits.bytes.now)
