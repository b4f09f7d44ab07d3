use Rattle.ga_boxed.proofs.live_block.LiveBlock.drop.Given as goal
use Rattle.std.proofs.Common.{length}

abbrev pub decreases-loop-item : goal.decreases-loop-item
decreases-loop-item g l = length l.self.items
