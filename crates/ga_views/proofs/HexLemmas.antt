-- Digits of bytes: in upper case, and cut between two parts of the bytes.
use Rattle.ga_views.specs.HexText.{hex_digits, hex_text}
use Rattle.hex.proofs.HexLemmas.{IsAscii-encode_with, length-encode_with}
use Rattle.hex.specs.Hex.{encode_lower, encode_with, lower_digits, upper_digits}
use Rattle.std.proofs.Common.{◌≡◌, ℕ, ◌+◌, ◌-◌, ◌*◌, ◌/◌, ◌%◌, ◌≤◌, inl, inr, Bool, true, false, if◌then◌else◌, List}
use Rattle.std.proofs.Common.{[], ◌∷◌, ◌++◌, Option, None, Some, refl, sym, ap, ◌∙◌, arith, length, map}
use Rattle.std.proofs.Common.{length-append, length-take, nat_lt, min, take, ◌<◌, subst, unwrap_or}
use Rattle.std.proofs.Math.ListN.{get_or-map}
use Rattle.std.proofs.Math.Seq.{take-append-add, take-append_seam}
use Rattle.std.proofs.lemmas.Bool.{cases_lt, ltb-true}
use Rattle.std.proofs.lemmas.List.{append-nil, take_all, take-append-le, take_min}
use Rattle.std.proofs.lemmas.List.Sums.{AllPass-from_list_all}
use Rattle.std.proofs.lemmas.Str.{IsAscii-take, IsUtf8-from_ascii}
use Rattle.std.proofs.lemmas.Str.Ascii.{IsAscii-from_all}
use Rattle.std.specs.Char.{to_ascii_uppercase}
use Rattle.std.specs.List.{list_all}
use Rattle.std.specs.Str.{IsAscii, IsUtf8}

-- digits of a table in upper case are those of the table in upper case
uppercase-encode_with : (t bytes : List ℕ) → map to_ascii_uppercase (encode_with t bytes)
    ≡ encode_with (map to_ascii_uppercase t) bytes
unfolding encode_with
uppercase-encode_with t [] = refl
uppercase-encode_with t (b ∷ rest) =
    let read = get_or-map to_ascii_uppercase t in
    rw (uppercase-encode_with t rest, ← read (b / 16) 0, ← read (b % 16) 0) refl

-- digits in lower case, made upper case, are those in upper case
pub uppercase_lower : (bytes : List ℕ) → map to_ascii_uppercase (encode_lower bytes) ≡ hex_digits true bytes
uppercase_lower bytes = uppercase-encode_with lower_digits bytes

-- the digits of bytes and of others behind them
encode_with-append : (t bytes others : List ℕ) → encode_with t (bytes ++ others) ≡ encode_with t bytes
    ++ encode_with t others
unfolding encode_with
encode_with-append t [] others = refl
encode_with-append t (b ∷ rest) others = rw (encode_with-append t rest others) refl

-- what is taken of two lists is taken of the first as far as that goes, and then of the second
take-append : (count : ℕ) (xs ys : List ℕ) → take count (xs ++ ys) ≡ take count xs
    ++ take (count - length (take count xs)) ys
take-append count xs ys =
    let taken = length-take count xs in
    elim (cases_lt count (length xs)) [
      | inl short ↦
          let none : count - length (take count xs) ≡ 0 = omega (arith, taken) in
          rw (none, take-append-le count xs ys (omega arith)) (sym (append-nil (take count xs)))
      | inr long ↦
          let all : take count xs ≡ xs = take_all count xs (omega arith) in
          let more : count ≡ length xs + (count - length xs) = omega arith in
          rw all (ap (λ n. take n (xs ++ ys)) more ∙ take-append-add xs ys (count - length xs))
    ]

-- a text whose bytes pass the test is ASCII
IsAscii-from_test : (text : List ℕ) → list_all (λ b. nat_lt b 128) text ≡ true → IsAscii text
IsAscii-from_test text pass = IsAscii-from_all text
    (λ k d lt. ltb-true _ 128 (AllPass-from_list_all (λ b. nat_lt b 128) text pass k d lt))

-- a text with a part that isn't empty isn't empty
pub not_empty : (whole done left text others : List ℕ) → whole ≡ done ++ left → left ≡ text ++ others → 0 < length text
    → whole ≡ [] → ⊥
not_empty whole done left text others so_far next some none =
    omega (arith, ap length (sym none ∙ so_far), length-append done left, ap length next, length-append text others)

-- each digit of a table is ASCII
IsAscii-table : (upper : Bool) → IsAscii (if upper then upper_digits else lower_digits)
IsAscii-table true = IsAscii-from_test upper_digits refl
IsAscii-table false = IsAscii-from_test lower_digits refl

module _ (upper : Bool) where
  -- two digits for each byte
  pub length-hex_digits : (bytes : List ℕ) → length (hex_digits upper bytes) ≡ 2 * length bytes
  length-hex_digits bytes = length-encode_with _ bytes

  -- the text is as many digits as the limit lets through
  pub hex_text-counted : (limit : Option ℕ) (bytes : List ℕ) → hex_text upper limit bytes
      ≡ take (min (unwrap_or limit (2 * length bytes)) (2 * length bytes)) (hex_digits upper bytes)
  hex_text-counted None bytes = sym (take_all _ (hex_digits upper bytes) (omega (arith, length-hex_digits bytes)))
  hex_text-counted (Some most) bytes =
      rw (← length-hex_digits bytes) (sym (take_min most (hex_digits upper bytes)))

  -- what stands in front of digits is text
  pub IsUtf8-front : (count : ℕ) (bytes text left : List ℕ) → take count (hex_digits upper bytes) ≡ text ++ left
      → IsUtf8 text
  IsUtf8-front count bytes text left parts =
      let is : text ≡ take (length text) (take count (hex_digits upper bytes)) =
      sym (take-append_seam text left) ∙ ap (take (length text)) (sym parts) in
      let ascii = IsAscii-encode_with _ bytes (IsAscii-table upper) in
      IsUtf8-from_ascii text (subst IsAscii (sym is) (IsAscii-take _ _ (IsAscii-take _ count ascii)))

  -- bytes in two parts, and the text of the first: of so many digits, as many as it has
  module _ (count : ℕ) (left piece behind text : List ℕ) (parts : left ≡ piece ++ behind)
      (is : text ≡ take count (hex_digits upper piece)) where
    text-long : length text ≡ min count (2 * length piece)
    text-long = omega (arith, ap length is, length-take count (hex_digits upper piece), length-hex_digits piece)

    -- the digits of all are that text and the others of the second part
    pub piece-next : take count (hex_digits upper left) ≡ text ++ take (count - length text) (hex_digits upper behind)
    piece-next = rw (parts, is) (ap (take count) (encode_with-append _ piece behind)
        ∙ take-append count (hex_digits upper piece) (hex_digits upper behind))

    -- the text has a digit where there are bytes and room for two digits
    pub piece-some : (cut room : ℕ) → 0 < count → count ≤ 2 * length left → 2 ≤ room
        → cut ≡ min (length left) (room / 2) → length piece ≡ cut → 0 < length text
    piece-some cut room some enough wide half long = omega (arith, text-long)

    -- and the second part has as many as are left
    pub piece-left : count ≤ 2 * length left → count - length text ≤ 2 * length behind
    piece-left enough = omega (arith, text-long, ap length parts, length-append piece behind)
