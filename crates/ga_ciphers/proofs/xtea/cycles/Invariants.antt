use Rattle.ga_ciphers.proofs.xtea.cycles.Given as goal
use Rattle.ga_ciphers.specs.Xtea.{cycles}
use Rattle.std.proofs.Common.{◌≡◌}

-- the halves after the cycles so far
abbrev pub invariant-cycles : goal.invariant-cycles
invariant-cycles l = l.halves ≡ cycles l.key l.number (l.fn.left, l.fn.right)
