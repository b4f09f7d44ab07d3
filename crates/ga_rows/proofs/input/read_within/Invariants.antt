use Rattle.ga_rows.proofs.input.read_within.Given as goal
use Rattle.std.specs.Io.KnownBytes.{Consumes}

-- what the reader gave so far is what is kept
abbrev pub invariant-loop-try : goal.invariant-loop-try
invariant-loop-try g l = Consumes (g.R.Read.remaining l.fn.r) (g.R.Read.remaining l.r) l.input.items
