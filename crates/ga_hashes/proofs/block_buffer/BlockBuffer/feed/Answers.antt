use Rattle.ga_hashes.proofs.BufferLemmas.{HasFed-more}
use Rattle.ga_hashes.proofs.block_buffer.BlockBuffer.feed.Goals as goal

pub returns-clause-whole : goal.returns-clause-whole
returns-clause-whole g c first message fed =
    let told = c.feed_blocks.ensures in HasFed-more told.width c.args.bytes.now fed told.blocks told.kept
