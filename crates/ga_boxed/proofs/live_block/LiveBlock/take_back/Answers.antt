use Rattle.ga_boxed.proofs.BlockLemmas.{none_held, some_held}
use Rattle.ga_boxed.proofs.live_block.LiveBlock.take_back.Goals as goal
use Rattle.std.proofs.Common.{refl}

pub returns-then-self : goal.returns-then-self
returns-then-self g c = (none_held _ _ _ _ c.self.view_is c.self.invariant.items c.if-self.true, refl)

pub take_last-requires : goal.take_last-requires
take_last-requires g c = record { enough = some_held _ _ _ _ c.self.view_is c.self.invariant.items c.if-self.false }
