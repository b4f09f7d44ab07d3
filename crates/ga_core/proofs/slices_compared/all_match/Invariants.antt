use Rattle.ga_core.proofs.slices_compared.all_match.Given as goal
use Rattle.std.proofs.Common.{◌≡◌, take}
use Rattle.std.specs.Cmp.Lexicographic.{pointwise}

-- what was compared so far
abbrev pub invariant-loop-index : goal.invariant-loop-index
invariant-loop-index g l = l.same ≡ pointwise g.T.PartialEq.eq (take l.index l.left) (take l.index l.right)
