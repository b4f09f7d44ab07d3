-- Padding: what is kept of a message determines how many zeros it takes.
use Rattle.ga_hashes.specs.BlockBuffer.{with_padding, padding, zero_count}
use Rattle.ga_core.specs.Rows.{chunk_rest}
use Rattle.std.proofs.Common.{◌≡◌, ℕ, ◌+◌, ◌-◌, ◌*◌, ◌/◌, ◌%◌, ◌<◌, ◌∷◌, [], List, ◌++◌, length, replicate, ap, refl}
use Rattle.std.proofs.Common.{sym, ◌∙◌, append_assoc, arith, inl, inr, length-append, length-drop, div-add-mod'}
use Rattle.std.proofs.Math.Nat.{add-mul-mod_self_right, div-mul-le_self, mod-eq_of_lt, mod-lt, mod_self}
use Rattle.std.proofs.lemmas.Bool.{cases_lt}
use Rattle.std.proofs.lemmas.List.{length-replicate, nil_from_length}
use Rattle.std.specs.Int.{to_be_bytes, w64}

module _ (width : ℕ) (message kept : List ℕ) (rest : kept ≡ chunk_rest width message) where
  place : (length kept + 9) % width ≡ (length message + 9) % width
  place =
      let count = length message / width in
      let split : length message + 9 ≡ length kept + 9 + count * width =
      omega (arith, ap length rest, length-drop (count * width) message, div-mul-le_self (length message) width) in
      rw (split, add-mul-mod_self_right (length kept + 9) count width) refl

  -- what is kept takes as many zeros as the message
  pub padding-kept : (len : ℕ) → len ≡ length message
      → padding width (length kept) len ≡ padding width (length message) (length message)
  padding-kept len counted =
      rw (place, counted) refl

-- what is kept and the padding: the mark, zeros and the length in turn
module _ (width : ℕ) (kept : List ℕ) (len count : ℕ) (bits : List ℕ) (counted : count ≡ zero_count width (length kept))
    (told : bits ≡ to_be_bytes w64 (8 * len)) where
  pub padding-after_mark : kept ++ padding width (length kept) len ≡ (kept ++ 128 ∷ []) ++ (replicate count 0 ++ bits)
  padding-after_mark = rw (told, counted, append_assoc kept (128 ∷ [])) refl

  pub padding-in_turn : kept ++ padding width (length kept) len ≡ ((kept ++ 128 ∷ []) ++ replicate count 0) ++ bits
  padding-in_turn = padding-after_mark ∙ sym (append_assoc (kept ++ 128 ∷ []) (replicate count 0) bits)

-- the zeros fill the last block
module _ (width : ℕ) (some : 0 < width) where
  filled : (n : ℕ) → (n + (width - n % width) % width) % width ≡ 0
  filled n =
      let split : n / width * width + n % width ≡ n = div-add-mod' n width in
      let below : n % width < width = mod-lt n some in
      elim (cases_lt 0 (n % width)) as (λ _. (n + (width - n % width) % width) % width ≡ 0) [
        | inl left ↦
            let zeros : (width - n % width) % width ≡ width - n % width = mod-eq_of_lt (omega arith) in
            let whole : n + (width - n % width) % width ≡ width + n / width * width = omega arith in
            rw (whole, add-mul-mod_self_right width (n / width) width) (mod_self width)
        | inr none ↦
            let all : width - n % width ≡ width = omega arith in
            let whole : n + 0 ≡ n = omega arith in
            rw (all, mod_self width, whole) (omega arith)
      ]

  length-with_padding : (message : List ℕ) → length (with_padding width message)
      ≡ length message + 9 + zero_count width (length message)
  length-with_padding message =
      let bits : List ℕ = to_be_bytes w64 (8 * length message) in
      let eight : length bits ≡ 8 = refl in
      simp (length-append, length-replicate) (omega arith)

  -- behind the blocks of a padded message nothing is left
  pub with_padding-whole : (message : List ℕ) → chunk_rest width (with_padding width message) ≡ []
  with_padding-whole message =
      let all = with_padding width message in
      let even : length all % width ≡ 0 = rw (length-with_padding message) (filled (length message + 9)) in
      nil_from_length (chunk_rest width all) (omega
      (arith, length-drop (length all / width * width) all, div-add-mod' (length all) width, even))
