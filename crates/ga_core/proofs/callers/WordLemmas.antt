-- Words of 16, 32 and 64 bits as bytes and back, in both orders of bytes.
use Rattle.ga_views.proofs.RowLemmas.{rows-few, rows-first}
use Rattle.ga_views.specs.Rows.{rows}
use Rattle.std.proofs.Common.{◌≡◌, ℕ, zero, suc, ◌+◌, ◌*◌, ◌/◌, ◌%◌, ◌<◌, ◌≤◌, ◌^◌, List, [], ◌∷◌, ◌++◌, ap, ap₂, arith}
use Rattle.std.proofs.Common.{drop, get_or, length, length-append, length-drop, length-take, lit≤, map, refl, take, ◌∙◌}
use Rattle.std.proofs.Math.Nat.{div-add-mod, suc-mul}
use Rattle.std.proofs.lemmas.List.{drop_at, get_or-drop, nil_from_length, take-append-drop, take_at}
use Rattle.std.proofs.lemmas.Nat.{be_bytes_2, be_bytes_4, be_bytes_8, from_be_bytes-to_be_bytes_2, le_bytes_2}
use Rattle.std.proofs.lemmas.Nat.{from_be_bytes-to_be_bytes_4, from_be_bytes-to_be_bytes_8, from_le_bytes-to_le_bytes_2}
use Rattle.std.proofs.lemmas.Nat.{from_le_bytes-to_le_bytes_4, from_le_bytes-to_le_bytes_8, le_bytes_4, le_bytes_8}
use Rattle.std.specs.Int.{from_be_bytes, from_le_bytes, to_be_bytes, to_le_bytes, w16, w32, w64}
use Rattle.std.specs.List.{flat_map}

-- items below a bound, of the first ones
below-take : (n m : ℕ) (xs : List ℕ) → 0 < m → ((i : ℕ) → get_or xs i 0 < m) → (i : ℕ) → get_or (take n xs) i 0 < m
below-take zero m xs some fit i = some
below-take (suc n) m [] some fit i = some
below-take (suc n) m (x ∷ xs) some fit zero = fit zero
below-take (suc n) m (x ∷ xs) some fit (suc i) = below-take n m xs some (λ k. fit (suc k)) i

-- Words, each written in so many bytes and read from them.
module _ (width : ℕ) (written : ℕ → List ℕ) (read : List ℕ → ℕ) where
  -- Words below a bound are as before once they are written and read.
  abbrev WordsBack : ℕ → Type 0
  WordsBack bound = (ns : List ℕ) → ((i : ℕ) → get_or ns i 0 < bound) → map read (rows width (flat_map written ns)) ≡ ns

  -- The bytes of whole words are as before once they are read and written.
  abbrev BytesBack : Type 0
  BytesBack = (bs : List ℕ) → length bs % width ≡ 0 → ((i : ℕ) → get_or bs i 0 < 256)
      → flat_map written (map read (rows width bs)) ≡ bs

  module _ (some : 0 < width) where
    words_back : {bound : ℕ} → ((n : ℕ) → length (written n) ≡ width) → ((n : ℕ) → n < bound → read (written n) ≡ n)
        → WordsBack bound
    words_back long back [] fit = ap (map read) (rows-few width [] some)
    words_back long back (n ∷ ns) fit =
        let rest = flat_map written ns in
        let enough : width ≤ length (written n ++ rest) = omega (arith, length-append (written n) rest, long n) in
        rw (rows-first width (written n ++ rest) some enough)
        (ap₂ (λ row others. read row ∷ map read (rows width others)) (take_at (written n) rest width (long n))
        (drop_at (written n) rest width (long n))
        ∙ ap₂ ◌∷◌ (back n (fit zero)) (words_back long back ns (λ i. fit (suc i))))

    module _ (back : (bs : List ℕ) (n : ℕ) → length bs ≡ width → ((i : ℕ) → get_or bs i 0 < 256) → n ≡ read bs
        → written n ≡ bs) where
      counted : (count : ℕ) (bs : List ℕ) → length bs ≡ count * width → ((i : ℕ) → get_or bs i 0 < 256)
          → flat_map written (map read (rows width bs)) ≡ bs
      counted zero bs whole fit =
          rw (nil_from_length bs (omega (arith, whole)), rows-few width [] some) refl
      counted (suc count) bs whole fit =
          let more = suc-mul count width in
          let front : length (take width bs) ≡ width = omega (arith, whole, more, length-take width bs) in
          let left : length (drop width bs) ≡ count * width = omega (arith, whole, more, length-drop width bs) in
          rw (rows-first width bs some (omega (arith, whole, more)))
          (ap₂ ◌++◌ (back (take width bs) _ front (below-take width 256 bs (lit≤ tt) fit) refl)
          (counted count (drop width bs) left (λ i. rw (get_or-drop width bs i 0) (fit (width + i))))
          ∙ take-append-drop width bs)

      bytes_back : BytesBack
      bytes_back bs whole = counted (length bs / width) bs (omega (arith, whole, div-add-mod (length bs) width))

-- words of 16 bits are as before once written with the highest byte first and read
pub be_16_words_back : WordsBack 2 (to_be_bytes w16) (from_be_bytes w16) (2 ^ 16)
be_16_words_back = words_back 2 (to_be_bytes w16) (from_be_bytes w16) (lit≤ tt) (λ n. refl) from_be_bytes-to_be_bytes_2

-- the bytes of words of 16 bits are as before once read with the highest byte first and written
pub be_16_bytes_back : BytesBack 2 (to_be_bytes w16) (from_be_bytes w16)
be_16_bytes_back = bytes_back 2 (to_be_bytes w16) (from_be_bytes w16) (lit≤ tt) be_bytes_2

-- words of 32 bits are as before once written with the highest byte first and read
pub be_32_words_back : WordsBack 4 (to_be_bytes w32) (from_be_bytes w32) (2 ^ 32)
be_32_words_back = words_back 4 (to_be_bytes w32) (from_be_bytes w32) (lit≤ tt) (λ n. refl) from_be_bytes-to_be_bytes_4

-- the bytes of words of 32 bits are as before once read with the highest byte first and written
pub be_32_bytes_back : BytesBack 4 (to_be_bytes w32) (from_be_bytes w32)
be_32_bytes_back = bytes_back 4 (to_be_bytes w32) (from_be_bytes w32) (lit≤ tt) be_bytes_4

-- words of 64 bits are as before once written with the highest byte first and read
pub be_64_words_back : WordsBack 8 (to_be_bytes w64) (from_be_bytes w64) (2 ^ 64)
be_64_words_back = words_back 8 (to_be_bytes w64) (from_be_bytes w64) (lit≤ tt) (λ n. refl) from_be_bytes-to_be_bytes_8

-- the bytes of words of 64 bits are as before once read with the highest byte first and written
pub be_64_bytes_back : BytesBack 8 (to_be_bytes w64) (from_be_bytes w64)
be_64_bytes_back = bytes_back 8 (to_be_bytes w64) (from_be_bytes w64) (lit≤ tt) be_bytes_8

-- words of 16 bits are as before once written with the lowest byte first and read
pub le_16_words_back : WordsBack 2 (to_le_bytes w16) (from_le_bytes w16) (2 ^ 16)
le_16_words_back = words_back 2 (to_le_bytes w16) (from_le_bytes w16) (lit≤ tt) (λ n. refl) from_le_bytes-to_le_bytes_2

-- the bytes of words of 16 bits are as before once read with the lowest byte first and written
pub le_16_bytes_back : BytesBack 2 (to_le_bytes w16) (from_le_bytes w16)
le_16_bytes_back = bytes_back 2 (to_le_bytes w16) (from_le_bytes w16) (lit≤ tt) le_bytes_2

-- words of 32 bits are as before once written with the lowest byte first and read
pub le_32_words_back : WordsBack 4 (to_le_bytes w32) (from_le_bytes w32) (2 ^ 32)
le_32_words_back = words_back 4 (to_le_bytes w32) (from_le_bytes w32) (lit≤ tt) (λ n. refl) from_le_bytes-to_le_bytes_4

-- the bytes of words of 32 bits are as before once read with the lowest byte first and written
pub le_32_bytes_back : BytesBack 4 (to_le_bytes w32) (from_le_bytes w32)
le_32_bytes_back = bytes_back 4 (to_le_bytes w32) (from_le_bytes w32) (lit≤ tt) le_bytes_4

-- words of 64 bits are as before once written with the lowest byte first and read
pub le_64_words_back : WordsBack 8 (to_le_bytes w64) (from_le_bytes w64) (2 ^ 64)
le_64_words_back = words_back 8 (to_le_bytes w64) (from_le_bytes w64) (lit≤ tt) (λ n. refl) from_le_bytes-to_le_bytes_8

-- the bytes of words of 64 bits are as before once read with the lowest byte first and written
pub le_64_bytes_back : BytesBack 8 (to_le_bytes w64) (from_le_bytes w64)
le_64_bytes_back = bytes_back 8 (to_le_bytes w64) (from_le_bytes w64) (lit≤ tt) le_bytes_8

pub ruleset words = (
  be_16_words_back,
  be_16_bytes_back,
  be_32_words_back,
  be_32_bytes_back,
  be_64_words_back,
  be_64_bytes_back,
  le_16_words_back,
  le_16_bytes_back,
  le_32_words_back,
  le_32_bytes_back,
  le_64_words_back,
  le_64_bytes_back,
)
