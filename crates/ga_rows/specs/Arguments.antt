-- What the words after the program's name mean: a mode and a width, or nothing. A word is the list of its bytes.
use Rattle.ga_rows.specs.declared.arguments.Mode.{Mode}
use Rattle.ga_rows.specs.declared.arguments.Mode.TheVariants.{Back, Dec, Hex, Last, Sum}
use Rattle.ga_rows.specs.declared.arguments.Width.{Width}
use Rattle.ga_rows.specs.declared.arguments.Width.TheVariants.{W1, W16, W2, W4, W8}
use Rattle.std.specs.Prelude.{ℕ, List, [], ◌∷◌, Option, None, Some, codes, if◌then◌else◌}
use Rattle.std.specs.Str.{bytes_eq}

-- how many bytes a row has
abbrev pub row_len : Width → ℕ
row_len W1 = 1
row_len W2 = 2
row_len W4 = 4
row_len W8 = 8
row_len W16 = 16

-- the mode of this name
abbrev pub mode_named : List ℕ → Option Mode
mode_named word =
    if bytes_eq word (codes "dec") then Some Dec
    else if bytes_eq word (codes "hex") then Some Hex
    else if bytes_eq word (codes "back") then Some Back
    else if bytes_eq word (codes "sum") then Some Sum
    else if bytes_eq word (codes "last") then Some Last
    else None

-- the width of this number
abbrev pub width_named : List ℕ → Option Width
width_named word =
    if bytes_eq word (codes "1") then Some W1
    else if bytes_eq word (codes "2") then Some W2
    else if bytes_eq word (codes "4") then Some W4
    else if bytes_eq word (codes "8") then Some W8
    else if bytes_eq word (codes "16") then Some W16
    else None

-- a mode, and a width if there is one
abbrev pub with_width : Option Mode → Option Width → Option (Mode × Width)
with_width (Some mode) (Some width) = Some (mode, width)
with_width _ _ = None

abbrev pub meaning_of_words : List (List ℕ) → Option (Mode × Width)
meaning_of_words [] = Some (Dec, W4)
meaning_of_words (mode ∷ []) = with_width (mode_named mode) (Some W4)
meaning_of_words (mode ∷ width ∷ []) = with_width (mode_named mode) (width_named width)
meaning_of_words (_ ∷ _ ∷ _ ∷ _) = None
