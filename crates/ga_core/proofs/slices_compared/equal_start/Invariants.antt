use Rattle.ga_core.proofs.slices_compared.equal_start.Given as goal
use Rattle.std.proofs.Common.{◌≡◌, ◌≤◌, ◌-◌, length, take, true}
use Rattle.std.specs.Cmp.Lexicographic.{pointwise}

-- the items before are equal
abbrev pub invariant-loop-start : goal.invariant-loop-start
invariant-loop-start g l = record {
  within : l.start ≤ length l.left;
  equal : pointwise g.T.PartialEq.eq (take l.start l.left) (take l.start l.right) ≡ true;
}

abbrev pub decreases-loop-start : goal.decreases-loop-start
decreases-loop-start g l = length l.left - l.start
