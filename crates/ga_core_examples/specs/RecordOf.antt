-- Records read from rows of bytes.
use Rattle.ga_core_examples.specs.declared.records.Record.{Record}
use Rattle.std.specs.Int.{from_be_bytes, w16, w32}
use Rattle.std.specs.Prelude.{ℕ, List, ◌∷◌, [], slice_index}

-- the record in a row: a name of two bytes, and a value of four
unfoldable pub record_of : List ℕ → Record
record_of row = record {
  id = from_be_bytes w16 (slice_index row 0 ∷ slice_index row 1 ∷ []);
  value = from_be_bytes w32 (slice_index row 2 ∷ slice_index row 3 ∷ slice_index row 4 ∷ slice_index row 5 ∷ []);
}
