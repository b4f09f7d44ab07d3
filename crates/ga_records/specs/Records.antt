-- Records of one width that fill a list of bytes, one behind the other: record i is row i.
use Rattle.generic_array.specs.Rows.{chunk_rest}
use Rattle.std.specs.List.{list_any}
use Rattle.std.specs.Prelude.{◌≡◌, ℕ, suc, ⊤, ◌==◌, Bool, true, false, List, [], ◌∷◌, Option, None, Some, drop}
use Rattle.std.specs.Prelude.{slice_get}

-- whether bytes are records of this width: their rows leave no rest
abbrev pub IsRecordBlock : ℕ → List ℕ → Type 0
IsRecordBlock width bytes = chunk_rest width bytes ≡ []

-- whether a record has the byte
abbrev pub has : ℕ → List ℕ → Bool
has byte row = list_any (λ other. other == byte) row

-- the index in a list with one more record in front, where the index in the others is known, and whether the one in
-- front has the byte
abbrev pub index_behind : Bool → Option ℕ → Option ℕ
index_behind first (Some index) = Some (suc index)
index_behind true None = Some 0
index_behind false None = None

-- the greatest index of a record that has the byte, or `None` where none has it
abbrev pub last_record_with : ℕ → List (List ℕ) → Option ℕ
last_record_with byte [] = None
last_record_with byte (first ∷ others) = index_behind (has byte first) (last_record_with byte others)

-- no record has the byte
abbrev pub NoneHas : ℕ → List (List ℕ) → Type 0
NoneHas byte [] = ⊤
NoneHas byte (first ∷ others) = (has byte first ≡ false) × NoneHas byte others

-- the record at the index has the byte, and none behind it has
abbrev pub IsLastWith : ℕ → List (List ℕ) → ℕ → Type 0
IsLastWith byte records index = ((row : List ℕ) × (slice_get records index ≡ Some row) × (has byte row ≡ true))
    × NoneHas byte (drop (suc index) records)
