use Rattle.ga_ciphers.proofs.XteaLemmas.{block-halves}
use Rattle.ga_ciphers.proofs.xtea.halves_of.Goals as goal
use Rattle.ga_ciphers.specs.Xtea.{block_of, halves_of}
use Rattle.std.proofs.Common.{◌≡◌, ◌/◌, ◌%◌, ◌^◌, ap, arith, ◌∙◌}

pub returns : goal.returns
unfolding halves_of
returns c =
    let number = c.from_be_bytes-number.result in
    let is : (number / 2 ^ 32, number % 2 ^ 32) ≡ halves_of c.args.block.now =
    ap (λ n. (n / 2 ^ 32, n % 2 ^ 32)) c.from_be_bytes-number.ensures in
    record {
      halves = is;
      back = ap block_of is ∙ block-halves c.args.block.now c.requires (λ place. omega (arith, c.type_inv.block place));
    }
