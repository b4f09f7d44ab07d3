use Rattle.ga_records.proofs.record_block.RecordBlock.last_with.Given as goal
use Rattle.ga_records.specs.Block.{bytes_of}
use Rattle.ga_records.specs.Records.{last_record_with}
use Rattle.generic_array.specs.Rows.{rows}
use Rattle.std.proofs.Common.{◌≡◌, length}

-- no record behind those that are left has the byte
abbrev pub invariant-loop-record : goal.invariant-loop-record
invariant-loop-record g l = last_record_with l.byte (rows g.N.Unsigned.USIZE (bytes_of l.self))
    ≡ last_record_with l.byte l.left

abbrev pub decreases-loop-record : goal.decreases-loop-record
decreases-loop-record g l = length l.left
