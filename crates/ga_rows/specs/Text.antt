-- The text of an input: a line for each whole row, and a line for the rest.
use Rattle.generic_array.specs.HexText.{hex_digits}
use Rattle.generic_array.specs.Rows.{chunk_rest, rows}
use Rattle.ga_rows.specs.Arguments.{row_len}
use Rattle.ga_rows.specs.declared.arguments.Mode.{Mode}
use Rattle.ga_rows.specs.declared.arguments.Mode.TheVariants.{Back, Dec, Hex, Last, Sum}
use Rattle.ga_rows.specs.declared.arguments.Width.{Width}
use Rattle.std.specs.List.{flat_map, join_by}
use Rattle.std.specs.Prelude.{ℕ, List, [], ◌∷◌, ◌++◌, codes, decimal, false, reverse, sum}

-- the numbers in decimal, joined by one space
abbrev pub numbers_text : List ℕ → List ℕ
numbers_text numbers = join_by decimal (codes " ") numbers

-- a text, and the line feed that ends its line
abbrev pub line : List ℕ → List ℕ
line text = text ++ 10 ∷ []

-- the text of one row, without the end of its line
abbrev pub row_text : Mode → List ℕ → List ℕ
row_text Dec row = numbers_text row
row_text Hex row = hex_digits false row
row_text Back row = numbers_text (reverse row)
row_text Sum row = decimal (sum row)
row_text Last row = numbers_text row

-- the lines of rows, one after the other
abbrev pub lines : Mode → List (List ℕ) → List ℕ
lines mode rows = flat_map (λ row. line (row_text mode row)) rows

-- the rows in the order in which they are written
abbrev pub in_order : Mode → List (List ℕ) → List (List ℕ)
in_order Last rows = reverse rows
in_order _ rows = rows

-- their lines
abbrev pub row_lines : Mode → List (List ℕ) → List ℕ
row_lines mode rows = lines mode (in_order mode rows)

-- the line of the bytes that fill no row, if there are any
abbrev pub rest_line : List ℕ → List ℕ
rest_line [] = []
rest_line (byte ∷ bytes) = line (codes "rest " ++ numbers_text (byte ∷ bytes))

-- all that is written for an input by rows of a width
abbrev pub lines_of : Mode → ℕ → List ℕ → List ℕ
lines_of mode width input = row_lines mode (rows width input) ++ rest_line (chunk_rest width input)

-- the same by a width of the program
abbrev pub text_of : Mode → Width → List ℕ → List ℕ
text_of mode width input = lines_of mode (row_len width) input
