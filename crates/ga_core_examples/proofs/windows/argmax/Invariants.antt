use Rattle.ga_core_examples.proofs.windows.argmax.Given as goal
use Rattle.std.specs.List.{IsFirstMaxByKey}

-- the best so far is that of the first i
abbrev pub invariant-loop-i : goal.invariant-loop-i
invariant-loop-i g l = IsFirstMaxByKey (λ x. x) l.items l.i l.best
