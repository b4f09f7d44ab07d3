-- How many bytes a digest of SHA-1 has. The crates of the other hash functions say it of theirs.
use Rattle.sha1.specs.Sha1.{digest_bytes, sha1}
use Rattle.std.proofs.Common.{◌≡◌, ℕ, zero, suc, ◌+◌, ◌*◌, ◌∙◌, List, ap, length, length-append, refl, sym}
use Rattle.std.proofs.Math.Nat.{suc-mul}
use Rattle.std.specs.Int.{to_be_bytes, w32}
use Rattle.std.specs.Prelude.{slice_index}

-- each word of a state gives four bytes
length-digest_bytes : (state : List ℕ) (words : ℕ) → length (digest_bytes state words) ≡ words * 4
unfolding digest_bytes
length-digest_bytes state zero = refl
length-digest_bytes state (suc words) =
    length-append (digest_bytes state words) (to_be_bytes w32 (slice_index state words))
    ∙ (ap (λ bytes. bytes + 4) (length-digest_bytes state words) ∙ sym (suc-mul words 4))

-- a digest has 20 bytes
pub length-sha1 : (message : List ℕ) → length (sha1 message) ≡ 20
unfolding sha1
length-sha1 message = length-digest_bytes _ 5
