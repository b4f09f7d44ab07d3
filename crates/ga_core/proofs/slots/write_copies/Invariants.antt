use Rattle.ga_core.proofs.slots.write_copies.Given as goal
use Rattle.std.proofs.Common.{take, All}

-- what is written so far are clones
abbrev pub invariant-loop-slot : goal.invariant-loop-slot
invariant-loop-slot g l = All (g.T.Clone.is_clone l.item) (take l.slot-index l.slot-items)
