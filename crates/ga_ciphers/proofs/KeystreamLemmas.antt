-- Key streams by pieces, and texts under a key by pieces and twice.
use Rattle.ga_ciphers.specs.Keystream.{IsCurrent, key_byte, key_bytes, under}
use Rattle.std.proofs.Common.{◌≡◌, ℕ, zero, suc, ◌+◌, ◌-◌, ◌*◌, ◌/◌, ◌%◌, ◌<◌, ◌≤◌, List, [], ◌∷◌, ◌++◌, ap, ap₂, arith}
use Rattle.std.proofs.Common.{bit_xor, drop, get_or, inl, inr, length, length-drop, length-take, map, min, refl}
use Rattle.std.proofs.Common.{slice_range, sym, add-zero, take, zero-add, ◌∙◌, drop-cons, take-add}
use Rattle.std.proofs.Math.Nat.{add-mul-mod_self_right, mod-lt, mod_self}
use Rattle.std.proofs.lemmas.Bool.{cases_lt}
use Rattle.std.proofs.lemmas.Grind.{common_steps}
use Rattle.std.proofs.lemmas.List.{drop-drop, drop_at, map-append, take-append-drop, take_at}
use Rattle.std.proofs.lemmas.List.FromFn.{length-map-range_with_len}
use Rattle.std.proofs.lemmas.Nat.{div-add-mod', div-mul-add, mod-mul-add}
use Rattle.std.specs.Int.Bits.{xor_assoc, xor_self, xor_zero_r}
use Rattle.std.specs.List.{range_with_len}

-- the numbers from a on: the first m, and those that follow
range_with_len-append : (a m n : ℕ) → range_with_len a (m + n) ≡ range_with_len a m ++ range_with_len (a + m) n
range_with_len-append a zero n = rw (zero-add n, add-zero a) refl
range_with_len-append a (suc m) n =
    let more : suc m + n ≡ suc (m + n) = omega arith in
    let further : a + 1 + m ≡ a + suc m = omega arith in
    rw (more, range_with_len-append (a + 1) m n, further) refl

module _ (block : ℕ → List ℕ) (width : ℕ) where
  -- a piece of m + n bytes: m bytes, and n from further on
  pub key_bytes-append : (from m n : ℕ) → key_bytes block width from (m + n) ≡ key_bytes block width from m
      ++ key_bytes block width (from + m) n
  key_bytes-append from m n =
      ap (map (key_byte block width)) (range_with_len-append from m n)
      ∙ map-append (key_byte block width) (range_with_len from m) (range_with_len (from + m) n)

  pub length-key_bytes : (from count : ℕ) → length (key_bytes block width from count) ≡ count
  length-key_bytes from count = length-map-range_with_len (key_byte block width) from count

-- texts that are joined, under keys that are joined
pub under-append : (text key more further : List ℕ) → length text ≡ length key
    → under (text ++ more) (key ++ further) ≡ under text key ++ under more further
under-append [] [] more further long = refl
under-append [] (k ∷ key) more further long = absurd (omega arith)
under-append (t ∷ text) [] more further long = absurd (omega arith)
under-append (t ∷ text) (k ∷ key) more further long =
    ap (λ xs. bit_xor t k ∷ xs) (under-append text key more further (omega arith))

pub length-under : (text key : List ℕ) → length text ≡ length key → length (under text key) ≡ length text
length-under [] key long = refl
length-under (t ∷ text) [] long = absurd (omega arith)
length-under (t ∷ text) (k ∷ key) long = ap suc (length-under text key (omega arith))

xor_twice : (a b : ℕ) → bit_xor (bit_xor a b) b ≡ a
xor_twice a b = xor_assoc a b b ∙ (ap (bit_xor a) (xor_self b) ∙ xor_zero_r a)

-- the same key twice leaves the text
pub under_twice : (text key : List ℕ) → length text ≡ length key → under (under text key) key ≡ text
under_twice [] key long = refl
under_twice (t ∷ text) [] long = absurd (omega arith)
under_twice (t ∷ text) (k ∷ key) long = ap₂ ◌∷◌ (xor_twice t k) (under_twice text key (omega arith))

-- What callers use: texts under the key stream, by pieces and twice.
module _ (block : ℕ → List ℕ) (width from : ℕ) where
  -- two pieces in turn are the whole
  pub under_in_pieces : (first second : List ℕ) → under first (key_bytes block width from (length first))
      ++ under second (key_bytes block width (from + length first) (length second))
      ≡ under (first ++ second) (key_bytes block width from (length first + length second))
  under_in_pieces first second = rw (key_bytes-append block width from (length first) (length second))
      (sym (under-append first _ second _ (sym (length-key_bytes block width from (length first)))))

  -- the key twice leaves the text
  pub under_taken_off : (text now : List ℕ) → now ≡ under text (key_bytes block width from (length text))
      → under now (key_bytes block width from (length now)) ≡ text
  under_taken_off text now is =
      let key = key_bytes block width from (length text) in
      let same : length text ≡ length key = sym (length-key_bytes block width from (length text)) in
      rw (is, length-under text key same) (under_twice text key same)

-- what is written at each place is the text under the key
pub under-from_places : (text key new : List ℕ) → length text ≡ length key → length new ≡ length text
    → ((k : ℕ) → k < length text → get_or new k 0 ≡ bit_xor (get_or text k 0) (get_or key k 0)) → new ≡ under text key
under-from_places [] key [] same long places = refl
under-from_places [] key (n ∷ new) same long places = absurd (omega arith)
under-from_places (t ∷ text) [] new same long places = absurd (omega arith)
under-from_places (t ∷ text) (k ∷ key) [] same long places = absurd (omega arith)
under-from_places (t ∷ text) (k ∷ key) (n ∷ new) same long places = ap₂ ◌∷◌ (places 0 (omega arith))
    (under-from_places text key new (omega arith) (omega arith) (λ i below. places (suc i) (omega arith)))

-- Places in blocks of one width.
module _ (width : ℕ) (some : 0 < width) (position : ℕ) where
  -- the block at the place is current behind it too, up to its end
  pub IsCurrent-further : (block : ℕ → List ℕ) (kept : List ℕ) (count next : ℕ) → kept ≡ block (position / width)
      → position % width + count ≤ width → next ≡ position + count → IsCurrent block width next kept
  IsCurrent-further block kept count next is inside further within =
      elim (cases_lt (position % width + count) width) as (λ _. kept ≡ block (next / width)) [
        | inl below ↦
            let split : next ≡ position / width * width + (position % width + count) = omega arith in
            rw (split, div-mul-add (position / width) width (position % width + count) below) is
        | inr end ↦
            let split : next ≡ width + position / width * width = omega arith in
            absurd (within (rw (split, add-mul-mod_self_right width (position / width) width) (mod_self width)))
      ]

-- The bytes of one block.
module _ (block : ℕ → List ℕ) (width number : ℕ) (long : length (block number) ≡ width) where
  in_block : (count place from : ℕ) → place + count ≤ width → number * width + place ≡ from
      → take count (drop place (block number)) ≡ key_bytes block width from count
  in_block zero place from inside is = refl
  in_block (suc count) place from inside is =
      let here : place < width = omega arith in
      let first : get_or (block number) place 0 ≡ key_byte block width from =
      rw (← is, div-mul-add number width place here, mod-mul-add number width place here) refl in
      ap (take (suc count)) (drop-cons (block number) place 0 (omega arith))
      ∙ ap₂ ◌∷◌ first (in_block count (suc place) (from + 1) (omega arith) (omega arith))

  -- part of a block is the key stream's bytes there
  pub key_bytes-in_block : (from place count : ℕ) → place + count ≤ width → number * width + place ≡ from
      → slice_range (block number) place (place + count) ≡ key_bytes block width from count
  key_bytes-in_block from place count inside is =
      let many : place + count - place ≡ count = omega arith in rw many (in_block count place from inside is)

-- A text of which the first `done` bytes are under the key, and then `count` more.
module _ (block : ℕ → List ℕ) (width start : ℕ) (text : List ℕ) where
  -- the first bytes under the key, and the others as they were
  abbrev pub under_so_far : ℕ → List ℕ
  under_so_far done = under (take done text) (key_bytes block width start done) ++ drop done text

  module _ (done count : ℕ) (inside : done + count ≤ length text) where
    front : length (take done text) ≡ length (key_bytes block width start done)
    front = omega (arith, length-take done text, length-key_bytes block width start done)

    long : length (under (take done text) (key_bytes block width start done)) ≡ done
    long = omega (arith, length-take done text, length-under (take done text) (key_bytes block width start done) front)

    pub under_so_far-more : (now key : List ℕ) → now ≡ under_so_far done
        → key ≡ key_bytes block width (start + done) count
        → take done now ++ under (slice_range now done (done + length key)) key
        ++ drop (done + length key) now ≡ under_so_far (done + count)
    under_so_far-more now key is same =
        let counted : length key ≡ count = ap length same ∙ length-key_bytes block width (start + done) count in
        let many : done + length key - done ≡ count = omega arith in
        let so_far = under (take done text) (key_bytes block width start done) in
        let front_is : take done now ≡ so_far = ap (take done) is ∙ take_at so_far (drop done text) done long in
        let rest_is : drop done now ≡ drop done text = ap (drop done) is ∙ drop_at so_far (drop done text) done long in
        let behind_is : drop (done + length key) now ≡ drop (done + count) text =
        rw (counted, ← drop-drop count done now, rest_is) (drop-drop count done text) in
        let joined : under (take (done + count) text) (key_bytes block width start (done + count)) ≡ so_far
        ++ under (take count (drop done text)) (key_bytes block width (start + done) count) =
        rw (take-add done count text, key_bytes-append block width start done count)
        (under-append (take done text) _ (take count (drop done text)) _ front) in
        ap₂ ◌++◌ (ap₂ ◌++◌ front_is (ap₂ under (ap₂ take many rest_is) same) ∙ sym joined) behind_is

-- A turn of the loop over a text: so many bytes of the block at the place are put over the next bytes of the text.
module _ (block : ℕ → List ℕ) (width start : ℕ) (text : List ℕ) (some : 0 < width) (position done count : ℕ)
    (now kept : List ℕ) (counted : count ≡ min (length now - done) (width - position % width))
    (long : length now ≡ length text) (passed : done ≤ length text) where
  pub piece_more : position ≡ start + done → length kept ≡ width → kept ≡ block (position / width)
      → now ≡ under_so_far block width start text done → (key : List ℕ)
      → key ≡ slice_range kept (position % width) (position % width + count)
      → take done now ++ under (slice_range now done (done + length key)) key
      ++ drop (done + length key) now ≡ under_so_far block width start text (done + count)
  piece_more at full is so_far key part =
      let full_block : length (block (position / width)) ≡ width = ap length (sym is) ∙ full in
      under_so_far-more block width start text done count (omega arith) now key so_far
      (rw (part, is, ← at) (key_bytes-in_block block width (position / width) full_block position (position % width)
      count (omega (arith, mod-lt position some)) (div-add-mod' position width)))

-- a list that is rotated by k places, and then by the n others
pub turned_back : {A : Type 0} → (n k : ℕ) (xs : List A) → length xs ≡ n + k
    → drop n (drop k xs ++ take k xs) ++ take n (drop k xs ++ take k xs) ≡ xs
turned_back n k xs long =
    let rest : length (drop k xs) ≡ n = omega (arith, length-drop k xs, long) in
    rw (drop_at (drop k xs) (take k xs) n rest, take_at (drop k xs) (take k xs) n rest) (take-append-drop k xs)

-- texts and blocks under a key, there and back
pub ruleset keystreams = (common_steps, length-under, turned_back, under_in_pieces, under_taken_off, under_twice)
