use Rattle.ga_core.specs.Rows.{rows}
use Rattle.ga_core_examples.proofs.records.read_records.Given as goal
use Rattle.ga_core_examples.specs.RecordOf.{record_of}
use Rattle.std.proofs.Common.{◌≡◌, ◌++◌, map}

-- the records so far and those of the rows that are left are all
abbrev pub invariant-loop-row : goal.invariant-loop-row
invariant-loop-row l = l.records.items ++ map record_of l.row-iterator ≡ map record_of (rows 6 l.fn.bytes)
