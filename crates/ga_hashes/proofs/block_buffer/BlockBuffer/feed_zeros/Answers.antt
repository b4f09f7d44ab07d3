use Rattle.ga_hashes.proofs.block_buffer.BlockBuffer.feed_zeros.Goals as goal
use Rattle.std.proofs.Common.{◌≡◌, ap, arith, replicate, take, ◌∙◌}
use Rattle.std.proofs.lemmas.List.{take-replicate}

pub feed-requires : goal.feed-requires
feed-requires g c =
    let same : c.split_at.result.0.now ≡ replicate c.args.count 0 =
    c.split_at.ensures.front ∙ (ap (take c.args.count) (c.as_slice.ensures.items ∙ c.zeros-block.ensures)
    ∙ take-replicate c.args.count g.N.Unsigned.USIZE 0 (omega arith)) in
    record { callable = rw same c.requires.callable }

pub returns : goal.returns
returns g c first message fed =
    let same : c.split_at.result.0.now ≡ replicate c.args.count 0 =
    c.split_at.ensures.front ∙ (ap (take c.args.count) (c.as_slice.ensures.items ∙ c.zeros-block.ensures)
    ∙ take-replicate c.args.count g.N.Unsigned.USIZE 0 (omega arith)) in
    rw same at (c.feed.ensures.whole first message fed)
