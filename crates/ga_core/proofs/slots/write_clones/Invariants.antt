use Rattle.ga_core.proofs.slots.write_clones.Given as goal
use Rattle.std.proofs.Common.{take}
use Rattle.std.specs.List.{AllZip}

-- what is written so far are clones of the items so far
abbrev pub invariant-loop-index : goal.invariant-loop-index
invariant-loop-index g l = AllZip g.T.Clone.is_clone (take l.index l.items) (take l.index l.slots)
