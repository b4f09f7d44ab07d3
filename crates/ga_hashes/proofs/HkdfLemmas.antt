-- HKDF's output, block by block.
use Rattle.ga_hashes.specs.Hkdf.{BeginsWithBlocks, output_block, output_blocks, written_at}
use Rattle.ga_hashes.specs.Hmac.{hmac_of}
use Rattle.std.proofs.Common.{◌≡◌, ℕ, suc, ◌+◌, ◌-◌, ◌*◌, ◌<◌, ◌≤◌, ◌∙◌, List, [], ◌∷◌, ◌++◌, add-one, ap, arith, drop}
use Rattle.std.proofs.Common.{inl, inr, length, length-append, refl, subst, sym, take, suc-mul}
use Rattle.std.proofs.Math.Seq.{drop-append_seam, drop-nil, take-append-add, take-append_seam, take-nil}
use Rattle.std.proofs.lemmas.Bool.{cases_lt}
use Rattle.std.proofs.lemmas.List.{append-nil, drop-take, drop_all, length-take-le, take_all}

-- bytes that are cut where there is no room, and what was behind them
cut : (room behind : ℕ) (bytes output : List ℕ) → behind + room ≡ length output
    → take (length bytes) (take room bytes ++ drop (behind + length bytes) output) ≡ take room bytes
cut room behind bytes output all =
    elim (cases_lt room (length bytes)) as (λ _. take (length bytes)
    (take room bytes ++ drop (behind + length bytes) output) ≡ take room bytes) [
      | inl short ↦
          rw (drop_all (behind + length bytes) output (omega arith), append-nil (take room bytes))
          (take_all (length bytes) (take room bytes) (omega (arith, length-take-le room bytes (omega arith))))
      | inr fits ↦ rw (take_all room bytes fits) (take-append_seam bytes (drop (behind + length bytes) output))
    ]

-- bytes behind those that an output begins with
more : (made bytes output : List ℕ) → length made ≤ length output → take (length made) output ≡ made
    → take (length (made ++ bytes)) (written_at (length made) bytes output) ≡ take (length output) (made ++ bytes)
more made bytes output below begun =
    let at = length made in
    let room = length output - at in
    let behind = take room bytes ++ drop (at + length bytes) output in
    let left : take (at + length bytes) (made ++ behind) ≡ made ++ take room bytes =
    rw (take-append-add made behind (length bytes), cut room at bytes output (omega arith)) refl in
    let right : take (length output) (made ++ bytes) ≡ made ++ take room bytes =
    let sum : length output ≡ at + room = omega arith in
    ap (λ n. take n (made ++ bytes)) sum ∙ take-append-add made bytes room in
    rw (length-append made bytes, begun) (left ∙ sym right)

module _ (digest : List ℕ → List ℕ) (block : ℕ) (key info : List ℕ) (size : ℕ) where
  -- no block is written
  pub BeginsWithBlocks-none : (output : List ℕ) → BeginsWithBlocks digest block key info size 0 output
  unfolding output_block output_blocks
  BeginsWithBlocks-none output = record {
    begun = sym (take-nil (length output));
    len = omega arith;
    last = drop-nil (0 * size - size);
  }

  -- one block more, of this size
  module _ (number at from : ℕ) (output bytes written : List ℕ) (room : number * size < length output)
      (begun : BeginsWithBlocks digest block key info size number output) (at_is : at ≡ number * size)
      (from_is : from ≡ number * size - size)
      (tag : bytes ≡ hmac_of digest block key (take (at - from) (drop from output) ++ (info ++ ((number + 1) ∷ []))))
      (whole : length bytes ≡ size) (put : written ≡ written_at at bytes output)
      (stays : length written ≡ length output) where
    abbrev made : List ℕ
    made = output_blocks digest block key info number

    full : take (number * size) output ≡ made
    full = rw (← begun.len) (begun.begun ∙ take_all (length output) made (omega (arith, begun.len)))

    is_before : take (at - from) (drop from output) ≡ output_block digest block key info number
    is_before =
        let end : from + (at - from) ≡ number * size = omega (arith, at_is, from_is) in
        rw (← drop-take from (at - from) output, end, full, from_is) begun.last

    is_block : bytes ≡ output_block digest block key info (suc number)
    unfolding output_block
    is_block =
        rw (tag, is_before, add-one number) refl

    are_blocks : output_blocks digest block key info (suc number) ≡ made ++ bytes
    unfolding output_blocks
    are_blocks = rw is_block refl

    begun_next : take (length (made ++ bytes)) written ≡ take (length written) (made ++ bytes)
    begun_next =
        rw (stays, put, at_is, ← begun.len)
        (more made bytes output (omega (arith, begun.len)) (ap (λ n. take n output) begun.len ∙ full))

    next : BeginsWithBlocks digest block key info size (suc number) written
    next =
        let all = are_blocks in
        let place : suc number * size - size ≡ length made = omega (arith, suc-mul number size, begun.len) in
        record {
          begun = subst (λ b. take (length b) written ≡ take (length written) b) (sym all) begun_next;
          len = ap length all ∙ (length-append made bytes ∙ omega (arith, suc-mul number size, begun.len, whole));
          last = rw (all, place) (drop-append_seam made bytes ∙ is_block);
        }

    pub BeginsWithBlocks-more : BeginsWithBlocks digest block key info size (number + 1) written
    BeginsWithBlocks-more = subst (λ n. BeginsWithBlocks digest block key info size n written)
        (sym (add-one number)) next
