-- What a block of records shows, for crates above, from which its field is hidden.
use Rattle.ga_records.specs.declared.record_block.RecordBlock.{RecordBlock}
use Rattle.generic_array.specs.Views.{items_of_chunks}
use Rattle.generic_array.specs.declared.Unsigned as unsigned
use Rattle.std.specs.Prelude.{ℕ, List}

module _ {N A : Type 0} {u : unsigned.Ghosts N} where
  -- the bytes of all records
  abbrev pub bytes_of : RecordBlock N A u → List ℕ
  bytes_of block = items_of_chunks block.records
