use Rattle.ga_ciphers.proofs.xtea.cycles_back.Given as goal
use Rattle.ga_ciphers.specs.Xtea.{cycles_back}
use Rattle.std.proofs.Common.{◌≡◌, ◌-◌}

-- the cycles that are left make of the halves what all make of the first
abbrev pub invariant-cycles : goal.invariant-cycles
invariant-cycles l = cycles_back l.key (32 - l.undone) l.halves ≡ cycles_back l.key 32 (l.fn.left, l.fn.right)
