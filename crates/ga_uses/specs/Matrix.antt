-- Matrices as lists of rows, whose numbers are multiplied and added modulo 2^64.
--
-- The words that laws speak of are `unfoldable`, so that a proof finds the laws by them.
use Rattle.std.specs.List.{All, range_with_len, zip}
use Rattle.std.specs.Prelude.{◌≡◌, ℕ, ◌+◌, ◌*◌, ◌%◌, ◌^◌, ◌<◌, ◌==◌, List, [], fold, if◌then◌else◌, length, map, slice_index, slice_index_or}

-- so many rows of so many numbers of 64 bits
abbrev pub IsMatrix : ℕ → ℕ → List (List ℕ) → Type 0
IsMatrix count columns rows =
    (length rows ≡ count) × All (λ row. (length row ≡ columns) × All (λ number. number < 2 ^ 64) row) rows

-- so many numbers, which are 1 at a place and else 0
abbrev pub unit_row : ℕ → ℕ → List ℕ
unit_row columns place = map (λ column. if column == place then 1 else 0) (range_with_len 0 columns)

-- the square matrix of the unit rows
unfoldable pub identity_matrix : ℕ → List (List ℕ)
identity_matrix size = map (unit_row size) (range_with_len 0 size)

-- the numbers of a column, from the first row to the last
abbrev pub column_of : List (List ℕ) → ℕ → List ℕ
column_of rows column = map (λ row. slice_index row column) rows

-- the columns as rows, of which there are so many
unfoldable pub transpose : ℕ → List (List ℕ) → List (List ℕ)
transpose columns rows = map (column_of rows) (range_with_len 0 columns)

-- the numbers whose column is their row
abbrev pub diagonal_of : List (List ℕ) → List ℕ
diagonal_of rows = map (λ place. slice_index (slice_index_or rows place []) place) (range_with_len 0 (length rows))

-- the sums of the numbers in the same place
abbrev pub row_sum : List ℕ → List ℕ → List ℕ
row_sum left right = map (λ pair. (pair.0 + pair.1) % 2 ^ 64) (zip left right)

-- the sums of the rows in the same place
abbrev pub matrix_sum : List (List ℕ) → List (List ℕ) → List (List ℕ)
matrix_sum left right = map (λ rows. row_sum rows.0 rows.1) (zip left right)

-- the sum of the products of numbers in the same place
abbrev pub dot_product : List ℕ → List ℕ → ℕ
dot_product left right = fold (λ total product. (total + product) % 2 ^ 64) 0
    (map (λ pair. (pair.0 * pair.1) % 2 ^ 64) (zip left right))

-- a row times each column of a matrix that has so many
abbrev pub row_product : ℕ → List ℕ → List (List ℕ) → List ℕ
row_product columns row right = map (λ column. dot_product row (column_of right column)) (range_with_len 0 columns)

-- each row of a matrix times each column of another, which has so many
unfoldable pub matrix_product : ℕ → List (List ℕ) → List (List ℕ) → List (List ℕ)
matrix_product columns left right = map (λ row. row_product columns row right) left
