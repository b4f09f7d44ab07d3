-- What ends in a padding.
use Rattle.ga_ciphers.specs.Padding.{padded}
use Rattle.std.proofs.Common.{◌≡◌, ℕ, ◌+◌, ◌-◌, ◌<◌, ◌≤◌, List, ap, arith, drop, get_or, length, length-append}
use Rattle.std.proofs.Common.{replicate, take, ◌∙◌}
use Rattle.std.proofs.lemmas.List.{drop_at, get_or-append-add, get_or-replicate, length-replicate, take_at}

-- the last byte is the padding's length, and so the bytes before it
pub record Ends (block rest : List ℕ) (last : ℕ) : Type 0 where
  pub some : 0 < last
  pub within : last ≤ length block
  pub front : take (length block - last) block ≡ rest
  pub back : drop (length block - last) block ≡ replicate last last

pub ends : (block rest : List ℕ) (missing last : ℕ) → 0 < missing → block ≡ padded rest missing
    → get_or block (length block - 1) 0 ≡ last → Ends block rest last
ends block rest missing last some is at_end =
    let padding = replicate missing missing in
    let len : length block ≡ length rest + missing =
    ap length is ∙ (length-append rest padding ∙ ap (λ n. length rest + n) (length-replicate missing missing)) in
    let place : length block - 1 ≡ length rest + (missing - 1) = omega arith in
    let byte = get_or-replicate missing (missing - 1) missing 0 (omega arith) in
    let told : missing ≡ last = rw (place, is, get_or-append-add rest padding (missing - 1) 0, byte) at at_end in
    let before : length rest ≡ length block - last = omega arith in
    record {
      some = omega arith;
      within = omega arith;
      front = ap (take (length block - last)) is ∙ take_at rest padding (length block - last) before;
      back = ap (drop (length block - last)) is
          ∙ (drop_at rest padding (length block - last) before ∙ ap (λ n. replicate n n) told);
    }
