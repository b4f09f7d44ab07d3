use Rattle.ga_ciphers.proofs.XteaLemmas.{halves-block}
use Rattle.ga_ciphers.proofs.xtea.block_of.Goals as goal
use Rattle.ga_ciphers.specs.Xtea.{block_of, halves_of}
use Rattle.std.proofs.Common.{◌≡◌, ◌+◌, ◌*◌, ◌^◌, ap, ap₂, arith, ◌∙◌}
use Rattle.std.specs.Int.{to_be_bytes, w64}

pub returns : goal.returns
unfolding block_of
returns c =
    let is : c.from_array.result ≡ block_of (c.args.left, c.args.right) = c.from_array.ensures
    ∙ (c.to_be_bytes.ensures ∙ ap₂ (λ l r. to_be_bytes w64 (l * 2 ^ 32 + r)) c.from.ensures c.from-2.ensures) in
    record {
      block = is;
      back = ap halves_of is ∙ halves-block (c.args.left, c.args.right) (omega arith, omega arith);
    }
