-- Laws of matrices as lists of rows.
use Rattle.ga_uses.specs.Matrix.{IsMatrix, column_of, dot_product, identity_matrix, matrix_product, row_product}
use Rattle.ga_uses.specs.Matrix.{transpose, unit_row}
use Rattle.std.proofs.Common.{◌≡◌, ℕ, zero, suc, ◌+◌, ◌*◌, ◌%◌, ◌^◌, ◌<◌, ◌∙◌, List, [], ◌∷◌, add-zero, ap, arith, cond}
use Rattle.std.proofs.Common.{eqb, get_or, length, map, mul-zero, refl, sym, zero-add, mod-eq_of_lt, mul_comm, eq-eqb}
use Rattle.std.proofs.Common.{ne_eqb}
use Rattle.std.proofs.lemmas.List.{get_or-map, length-map}
use Rattle.std.proofs.lemmas.List.Elements.{All-head, All-map, All-tail}
use Rattle.std.proofs.lemmas.List.Folds.{map_fixed}
use Rattle.std.proofs.lemmas.List.FromFn.{fill_by_all, get_or-map-range_with_len}
use Rattle.std.proofs.lemmas.Simd.{map-map}
use Rattle.std.specs.List.{All, fold, range_with_len, zip}

-- turned twice, a matrix is as it was
pub transposed_twice : (rows columns : ℕ) (matrix : List (List ℕ)) → IsMatrix rows columns matrix
    → transpose rows (transpose columns matrix) ≡ matrix
unfolding transpose
transposed_twice rows columns matrix (count, each) =
    let turned : List (List ℕ) = transpose columns matrix in
    sym (fill_by_all (column_of turned) matrix rows [] count (λ k below.
    let within : k < length matrix = omega (arith, count) in
    let row : List ℕ = get_or matrix k [] in
    let wide : length row ≡ columns = (each k [] within).0 in
    let read : row ≡ map (λ j. get_or (column_of matrix j) k 0) (range_with_len 0 columns) =
    fill_by_all (λ j. get_or (column_of matrix j) k 0) row columns 0 wide
    (λ j here. sym (get_or-map (λ r. get_or r j 0) matrix k [] 0 within)) in
    read ∙ sym (map-map (λ r. get_or r k 0) (column_of matrix) (range_with_len 0 columns))))

-- the products are the same in either order
products_swapped : (left right : List ℕ)
    → map (λ pair. (pair.0 * pair.1) % 2 ^ 64) (zip left right) ≡ map (λ pair. (pair.0 * pair.1) % 2 ^ 64) (zip right left)
products_swapped [] [] = refl
products_swapped [] (y ∷ right) = refl
products_swapped (x ∷ left) [] = refl
products_swapped (x ∷ left) (y ∷ right) = λ i. ap (λ n. n % 2 ^ 64) (mul_comm x y) i ∷ products_swapped left right i

dot_swapped : (left right : List ℕ) → dot_product left right ≡ dot_product right left
dot_swapped left right = ap (fold (λ total product. (total + product) % 2 ^ 64) 0) (products_swapped left right)

module _ (place : ℕ) (unit : ℕ → ℕ) (one : unit place ≡ 1) (others : (i : ℕ) → (i ≡ place → ⊥) → unit i ≡ 0) where
  -- numbers behind the place of the 1 add nothing
  none_behind : (numbers : List ℕ) (start total : ℕ) → place < start → total < 2 ^ 64
      → fold (λ total product. (total + product) % 2 ^ 64) total
      (map (λ pair. (pair.0 * pair.1) % 2 ^ 64) (zip numbers (map unit (range_with_len start (length numbers))))) ≡ total
  none_behind [] start total behind fits = refl
  none_behind (x ∷ numbers) start total behind fits =
      rw (others start (λ here. absurd (omega arith)), mul-zero x, add-zero, mod-eq_of_lt fits)
      (none_behind numbers (start + 1) total (omega arith) fits)

  -- the number at the place of the 1 is what remains
  one_remains : (numbers : List ℕ) (start ahead : ℕ) → All (λ number. number < 2 ^ 64) numbers
      → place ≡ start + ahead → ahead < length numbers
      → dot_product numbers (map unit (range_with_len start (length numbers))) ≡ get_or numbers ahead 0
  one_remains [] start ahead fit here within = absurd (omega (arith, within))
  one_remains (x ∷ numbers) start zero fit here within =
      let below : x < 2 ^ 64 = All-head (λ number. number < 2 ^ 64) x numbers fit in
      let same : unit start ≡ 1 = ap unit (omega (arith, here)) ∙ one in
      let product : x * 1 ≡ x = omega arith in
      rw (same, product, zero-add, mod-eq_of_lt below, mod-eq_of_lt below)
      (none_behind numbers (start + 1) x (omega arith) below)
  one_remains (x ∷ numbers) start (suc ahead) fit here within =
      rw (others start (λ at. absurd (omega arith)), mul-zero x) (one_remains numbers (start + 1) ahead
      (All-tail (λ number. number < 2 ^ 64) x numbers fit) (omega arith) (omega arith))

-- a matrix times the identity is the matrix
pub product_identity : (rows columns : ℕ) (matrix : List (List ℕ)) → IsMatrix rows columns matrix
    → matrix_product columns matrix (identity_matrix columns) ≡ matrix
unfolding identity_matrix matrix_product
product_identity rows columns matrix (count, each) =
    map_fixed (λ row. row_product columns row (identity_matrix columns)) matrix (λ k d within.
    let row : List ℕ = get_or matrix k d in
    let wide : length row ≡ columns = (each k d within).0 in
    let fit : All (λ number. number < 2 ^ 64) row = (each k d within).1 in
    sym (fill_by_all (λ j. dot_product row (column_of (identity_matrix columns) j)) row columns 0 wide (λ j below.
    let entry : ℕ → ℕ = λ i. get_or (unit_row columns i) j 0 in
    let tells : (i : ℕ) → entry i ≡ cond (eqb j i) 1 0 =
    λ i. get_or-map-range_with_len (λ c. cond (eqb c i) 1 0) 0 columns j j 0 below (omega arith) in
    let one : entry j ≡ 1 = tells j ∙ ap (λ b. cond b 1 0) (eq-eqb j j refl) in
    let others : (i : ℕ) → (i ≡ j → ⊥) → entry i ≡ 0 =
    λ i other. tells i ∙ ap (λ b. cond b 1 0) (ne_eqb j i (λ same. other (sym same))) in
    let read : column_of (identity_matrix columns) j ≡ map entry (range_with_len 0 (length row)) =
    map-map (λ r. get_or r j 0) (unit_row columns) (range_with_len 0 columns)
    ∙ ap (λ n. map entry (range_with_len 0 n)) (sym wide) in
    let within_row : j < length row = omega (arith, wide) in
    sym (ap (dot_product row) read ∙ one_remains j entry one others row 0 j fit (omega arith) within_row))))

-- the identity times a matrix is the matrix
pub identity_product : (rows columns : ℕ) (matrix : List (List ℕ)) → IsMatrix rows columns matrix
    → matrix_product columns (identity_matrix rows) matrix ≡ matrix
unfolding identity_matrix matrix_product
identity_product rows columns matrix (count, each) =
    map-map (λ row. row_product columns row matrix) (unit_row rows) (range_with_len 0 rows)
    ∙ sym (fill_by_all (λ k. row_product columns (unit_row rows k) matrix) matrix rows [] count (λ k below.
    let within : k < length matrix = omega (arith, count) in
    let row : List ℕ = get_or matrix k [] in
    let wide : length row ≡ columns = (each k [] within).0 in
    fill_by_all (λ j. dot_product (unit_row rows k) (column_of matrix j)) row columns 0 wide (λ j here.
    let numbers : List ℕ = column_of matrix j in
    let long : length numbers ≡ rows = length-map matrix (λ r. get_or r j 0) ∙ count in
    let fit : All (λ number. number < 2 ^ 64) numbers =
    All-map (λ number. number < 2 ^ 64) (λ r. get_or r j 0) matrix (λ i d there.
    (each i d there).1 j 0 (omega (arith, (each i d there).0))) in
    let entry : ℕ → ℕ = λ i. cond (eqb i k) 1 0 in
    let one : entry k ≡ 1 = ap (λ b. cond b 1 0) (eq-eqb k k refl) in
    let others : (i : ℕ) → (i ≡ k → ⊥) → entry i ≡ 0 =
    λ i other. ap (λ b. cond b 1 0) (ne_eqb i k other) in
    let units : unit_row rows k ≡ map entry (range_with_len 0 (length numbers)) =
    ap (λ n. map entry (range_with_len 0 n)) (sym long) in
    let there : k < length numbers = omega (arith, long) in
    sym (dot_swapped (unit_row rows k) numbers
    ∙ (ap (dot_product numbers) units
    ∙ (one_remains k entry one others numbers 0 k fit (omega arith) there
    ∙ get_or-map (λ r. get_or r j 0) matrix k [] 0 within))))))

-- what a `using(..)` line names
pub ruleset matrix_laws = (transposed_twice, product_identity, identity_product)
