-- A turn of the loops over the blocks of a text: the block at a place is written over by a part as long.
use Rattle.ga_ciphers.proofs.KeystreamLemmas.{under_twice}
use Rattle.ga_ciphers.specs.Cbc.{cbc_decrypted, cbc_encrypted, decrypted_blocks, encrypted_blocks}
use Rattle.ga_ciphers.specs.Keystream.{under}
use Rattle.generic_array.proofs.JoinLemmas.{rows-behind}
use Rattle.generic_array.proofs.RowLemmas.{rows-few, rows-first}
use Rattle.std.proofs.Common.{◌≡◌, ℕ, ◌+◌, ◌-◌, ◌%◌, ◌<◌, ◌≤◌, List, [], ◌∷◌, ◌++◌, ap, ap₂, append_assoc, arith, drop}
use Rattle.std.proofs.Common.{inl, inr, length, length-append, length-drop, length-take, refl, slice_range, sym, take}
use Rattle.std.proofs.Common.{◌∙◌, take-add, take_at}
use Rattle.std.proofs.Math.Nat.{mod-eq-sub-mod, mod-eq_of_lt}
use Rattle.std.proofs.lemmas.Bool.{cases_lt}
use Rattle.std.proofs.lemmas.List.{append-nil, drop-drop, drop_all, drop_at, length-take-le, take-append-drop, take_all}
use Rattle.std.proofs.lemmas.Nat.{xor_comm}

-- a block lies at each place before the end of whole blocks, and whole blocks behind it
module _ (width len done next : ℕ) (whole : (len - done) % width ≡ 0) (below : done < len) where
  block_within : done + width ≤ len
  block_within = elim (cases_lt (len - done) width) as (λ _. done + width ≤ len) [
    | inl few ↦ absurd (omega (arith, mod-eq_of_lt few, whole))
    | inr enough ↦ omega arith
  ]

  whole_behind : next ≡ done + width → (len - next) % width ≡ 0
  whole_behind goes =
      let enough : width ≤ len - done = omega (arith, block_within) in
      let left : len - next ≡ len - done - width = omega arith in
      rw (left, ← mod-eq-sub-mod enough) whole

under-comm : (xs ys : List ℕ) → under xs ys ≡ under ys xs
under-comm [] [] = refl
under-comm [] (y ∷ ys) = refl
under-comm (x ∷ xs) [] = refl
under-comm (x ∷ xs) (y ∷ ys) = ap₂ ◌∷◌ (xor_comm x y) (under-comm xs ys)

-- The blocks before a place are done: with what `result` makes of the others, from the vector on, they are what it
-- makes of all. The vector is the last block that was sent.
pub record BlocksDone (width : ℕ) (result : List ℕ → List ℕ → List ℕ) (first start vector now sent : List ℕ)
    (done : ℕ) : Type 0 where
  pub within : done ≤ length now
  pub whole : (length now - done) % width ≡ 0
  pub left : drop done now ≡ drop done start
  pub last : vector ≡ drop done (first ++ take done sent)
  pub text : take done now ++ result vector (drop done now) ≡ result first start

-- A turn of a loop over the blocks: at a place, as many bytes as the vector has are written over by a part, and the
-- next place lies behind them.
pub record Turn (width : ℕ) (vector start now new part : List ℕ) (done next : ℕ) : Type 0 where
  pub goes : next ≡ done + width
  pub whole : (length now - done) % width ≡ 0
  pub below : done < length now
  pub wide : length vector ≡ width
  pub long : length new ≡ length now
  pub left : drop done now ≡ drop done start
  pub is : new ≡ take done now ++ part ++ drop (done + width) now

-- no block is done
pub blocks-none : (width : ℕ) (result : List ℕ → List ℕ → List ℕ) (first start sent : List ℕ)
    → length start % width ≡ 0 → BlocksDone width result first start first start sent 0
blocks-none width result first start sent whole = record {
  within = omega arith;
  whole = let same : length start - 0 ≡ length start = omega arith in rw same whole;
  left = refl;
  last = sym (append-nil first);
  text = refl;
}

module _ {width : ℕ} {result : List ℕ → List ℕ → List ℕ} {first start vector now sent : List ℕ} {done : ℕ}
    (so_far : BlocksDone width result first start vector now sent done) where
  pub turn-from : {new part : List ℕ} {next : ℕ} → next ≡ done + width → done < length now → length vector ≡ width
      → length new ≡ length now → new ≡ take done now ++ part ++ drop (done + width) now
      → Turn width vector start now new part done next
  turn-from goes below wide long is =
      record { goes = goes; whole = so_far.whole; below = below; wide = wide; long = long; left = so_far.left; is = is }

  -- all blocks are done
  module _ (ended : length now ≤ done) where
    pub text-ended : result vector [] ≡ [] → now ≡ result first start
    text-ended none =
        sym (append-nil now) ∙ (rw (take_all done now ended, drop_all done now ended, none) at so_far.text)

    pub last-ended : length sent ≡ length now → vector ≡ drop (length sent) (first ++ sent)
    last-ended long =
        let end : done ≡ length sent = omega (arith, so_far.within) in
        rw (take_all done sent (omega arith), end) at so_far.last

module _ (width : ℕ) (some : 0 < width) (encrypted decrypted : List ℕ → List ℕ) where
  decrypted-behind : (vector block rest : List ℕ) → length block ≡ width
      → cbc_decrypted decrypted width vector (block ++ rest)
      ≡ under (decrypted block) vector ++ cbc_decrypted decrypted width block rest
  decrypted-behind vector block rest full =
      ap (decrypted_blocks decrypted vector) (rows-behind width some block rest (block ++ rest) refl full)

  pub decrypted-none : (vector : List ℕ) → cbc_decrypted decrypted width vector [] ≡ []
  decrypted-none vector = ap (decrypted_blocks decrypted vector) (rows-few width [] some)

  pub encrypted-none : (vector : List ℕ) → cbc_encrypted encrypted width vector [] ≡ []
  encrypted-none vector = ap (encrypted_blocks encrypted vector) (rows-few width [] some)

  pub back-ended : (first vector start now : List ℕ) (done : ℕ) → done ≡ length now → length start ≡ length now
      → ((rest : List ℕ) → cbc_decrypted decrypted width first (take done now ++ rest)
      ≡ take done start ++ cbc_decrypted decrypted width vector rest)
      → cbc_decrypted decrypted width first now ≡ start
  back-ended first vector start now done ended long back =
      rw (take_all done now (omega arith), take_all done start (omega arith), append-nil now) at (back [])
      ∙ (ap (λ xs. start ++ xs) (decrypted-none vector) ∙ append-nil start)

  module _ {vector start now new part : List ℕ} {done next : ℕ} (first : List ℕ)
      (turn : Turn width vector start now new part done next) where
    within : done + width ≤ length now
    within = block_within width (length now) done next turn.whole turn.below

    next-within : next ≤ length new
    next-within = omega (arith, within, turn.goes, turn.long)

    next-whole : (length new - next) % width ≡ 0
    next-whole = rw turn.long (whole_behind width (length now) done next turn.whole turn.below turn.goes)

    abbrev row : List ℕ
    row = slice_range now done (done + width)

    row_is : row ≡ take width (drop done now)
    row_is = let many : done + width - done ≡ width = omega arith in rw many refl

    row_len : length row ≡ width
    row_len = rw row_is (length-take-le width (drop done now) (omega (arith, within, length-drop done now)))

    part_len : length part ≡ width
    part_len =
        omega (arith, within, simp (length-append, length-take, length-drop) at (ap length turn.is), turn.long)

    front_len : length (take done now ++ part) ≡ next
    front_len = omega (arith, within, length-append (take done now) part, length-take done now, part_len)

    front_is : take next new ≡ take done now ++ part
    front_is = ap (take next) turn.is ∙ take_at (take done now ++ part) (drop (done + width) now) next front_len

    rest_is : drop next new ≡ drop width (drop done now)
    rest_is = ap (drop next) turn.is
        ∙ (drop_at (take done now ++ part) _ next front_len ∙ sym (drop-drop width done now))

    next-left : drop next new ≡ drop next start
    next-left = rw (rest_is, turn.left, turn.goes) (drop-drop width done start)

    -- the first bytes of the text as it was
    start_is : take next start ≡ take done start ++ row
    start_is = rw (row_is, turn.left, turn.goes) (take-add done width start)

    -- the vector is the last block of those before the next place
    vector_is : (before block : List ℕ) → length before ≡ done → vector ≡ drop done (first ++ before)
        → block ≡ drop next (first ++ (before ++ block))
    vector_is before block far same =
        let front : length (first ++ before) ≡ next =
        omega (arith, within, length-append first before, length-drop done (first ++ before), ap length same) in
        sym (rw (← append_assoc first before block) (drop_at (first ++ before) block next front))

    -- one block more is done
    blocks-more : (result : List ℕ → List ℕ → List ℕ) (sent later block : List ℕ)
        → BlocksDone width result first start vector now sent done
        → result vector (drop done now) ≡ part ++ result block (drop width (drop done now))
        → block ≡ drop next (first ++ take next later) → BlocksDone width result first start block new later next
    blocks-more result sent later block so_far one last = record {
      within = next-within;
      whole = next-whole;
      left = next-left;
      last = last;
      text = rw (front_is, rest_is, append_assoc (take done now) part, ← one) so_far.text;
    }

    pub encrypted-more : part ≡ encrypted (under vector row)
        → BlocksDone width (cbc_encrypted encrypted width) first start vector now now done
        → BlocksDone width (cbc_encrypted encrypted width) first start part new new next
    encrypted-more made so_far =
        blocks-more (cbc_encrypted encrypted width) now new part so_far
        (rw (made, row_is) (ap (encrypted_blocks encrypted vector)
        (rows-first width (drop done now) some (omega (arith, within, length-drop done now)))))
        (rw front_is (vector_is (take done now) part (omega (arith, within, length-take done now)) so_far.last))

    pub decrypted-more : length start ≡ length now → (block : List ℕ) → block ≡ row → part ≡ under (decrypted row) vector
        → BlocksDone width (cbc_decrypted decrypted width) first start vector now start done
        → BlocksDone width (cbc_decrypted decrypted width) first start block new start next
    decrypted-more far block taken made so_far =
        let split : row ++ drop width (drop done now) ≡ drop done now =
        rw row_is (take-append-drop width (drop done now)) in
        blocks-more (cbc_decrypted decrypted width) start start block so_far
        (ap (cbc_decrypted decrypted width vector) (sym split)
        ∙ rw (made, taken) (decrypted-behind vector row (drop width (drop done now)) row_len))
        (rw (taken, start_is)
        (vector_is (take done start) row (omega (arith, within, length-take done start)) so_far.last))

    -- what decrypting makes of the blocks before the place, and of any that follow
    pub back-more : decrypted part ≡ under vector row
        → ((rest : List ℕ) → cbc_decrypted decrypted width first (take done now ++ rest)
        ≡ take done start ++ cbc_decrypted decrypted width vector rest)
        → (rest : List ℕ) → cbc_decrypted decrypted width first (take next new ++ rest)
        ≡ take next start ++ cbc_decrypted decrypted width part rest
    back-more undone back rest =
        let again : under (decrypted part) vector ≡ row =
        rw (undone, under-comm vector row) (under_twice row vector (row_len ∙ sym turn.wide)) in
        rw (front_is, append_assoc (take done now) part rest, start_is) (back (part ++ rest)
        ∙ (ap (λ xs. take done start ++ xs) (rw again at (decrypted-behind vector part rest part_len))
        ∙ sym (append_assoc (take done start) row (cbc_decrypted decrypted width part rest))))
