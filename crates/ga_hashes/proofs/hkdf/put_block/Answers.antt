use Rattle.ga_hashes.proofs.HkdfLemmas.{BeginsWithBlocks-more}
use Rattle.ga_hashes.proofs.hkdf.put_block.Goals as goal
use Rattle.ga_hashes.specs.Hkdf.{written_at}
use Rattle.std.proofs.Common.{◌-◌, ◌*◌, ◌∙◌, ap, length, sym}

pub returns-clause-more : goal.returns-clause-more
returns-clause-more g c = λ begun.
    let at = c.args.number * c.len-size.result in
    let bytes = c.block_behind-block.result in
    BeginsWithBlocks-more g.H.HashFunction.digest g.H.BlockSize.Unsigned.USIZE c.args.key.now c.args.info.now
    g.H.OutputSize.Unsigned.USIZE
    c.args.number at c.saturating_sub.result c.args.output.now bytes c.put.new.output c.requires.room begun
    (ap (λ n. c.args.number * n) c.len-size.ensures)
    (c.saturating_sub.ensures ∙ ap (λ n. c.args.number * n - n) c.len-size.ensures)
    c.block_behind-block.ensures (sym (ap length c.as_slice.ensures.items) ∙ c.as_slice.ensures.len)
    (c.put.ensures ∙ ap (λ b. written_at at b c.args.output.now) c.as_slice.ensures.items) c.put.auto.output
