use Rattle.ga_core.proofs.slots.write_defaults.Given as goal
use Rattle.std.proofs.Common.{take}
use Rattle.std.specs.List.{All}

-- the slots so far hold defaults
abbrev pub invariant-loop-slot : goal.invariant-loop-slot
invariant-loop-slot g l = All g.T.Default.is_default (take l.slot-index l.slots)
