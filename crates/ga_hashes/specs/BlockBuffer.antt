-- Messages in blocks: what a buffer keeps of them, the calls at their blocks, and the padded message.
use Rattle.ga_core.specs.Calls.{MayMap}
use Rattle.ga_core.specs.Entries.{CallAt}
use Rattle.ga_core.specs.Runs.{ClosureRun}
use Rattle.ga_core.specs.Rows.{chunk_rest, rows}
use Rattle.std.specs.Borrow.{Bor}
use Rattle.std.specs.Int.{to_be_bytes, w64}
use Rattle.std.specs.Prelude.{◌≡◌, ℕ, ◌+◌, ◌-◌, ◌*◌, ◌%◌, ◌^◌, List, ◌∷◌, ◌++◌, length, min, replicate}

-- the bytes that wait for their block to fill, and how many bytes were fed; 2^64 - 1 stands for every number from
-- there on
pub record Fed : Type 0 where
  pub kept : List ℕ
  pub len : ℕ

-- how many bytes were fed, where more follow
abbrev pub count_more : ℕ → List ℕ → ℕ
count_more len bytes = min (len + length bytes) (2 ^ 64 - 1)

module _ {V F : Type 0} (bytes_of : V → List ℕ) (step : F → V → Unit {0} → F → Type 0) where
  -- calls led from the state f to the state last, one at each block in order
  abbrev pub TakesEach : F → List (List ℕ) → F → Type 0
  TakesEach f blocks last = (answers : List (Unit {0})) × ClosureRun (CallAt bytes_of step) f blocks answers last

  -- f may be called at each of these blocks in turn, which have this width, in each state that the calls before it
  -- lead to
  abbrev pub MayTake : (F → V → Type 0) → ℕ → F → List (List ℕ) → Type 0
  MayTake pre width f blocks = MayMap bytes_of (λ g view. length (bytes_of view) ≡ width → pre g view) step f blocks

  -- a message was fed: calls at its whole blocks led from the state first to the state f, and what fills none is kept
  pub record HasFed (width : ℕ) (first : F) (message kept : List ℕ) (f : F) : Type 0 where
    pub blocks : TakesEach first (rows width message) f
    pub rest : kept ≡ chunk_rest width message

module _ {F : Type 0} (step : F → Bor (List ℕ) → Unit {0} → F → Type 0) where
  -- calls led from the state f to the state last, one at each whole block of a message, which lies in a slice
  abbrev pub TakesBlocks : ℕ → F → List ℕ → F → Type 0
  TakesBlocks width f message last = TakesEach (λ slice. slice.now) step f (rows width message) last

  -- f may be called at each of these blocks in turn
  abbrev pub MayTakeBlocks : (F → Bor (List ℕ) → Type 0) → ℕ → F → List ℕ → Type 0
  MayTakeBlocks pre width f message = MayTake (λ slice. slice.now) step pre width f (rows width message)

-- how many zeros stand between the mark and the length behind `len` bytes: the fewest with which whole blocks are
-- filled
abbrev pub zero_count : ℕ → ℕ → ℕ
zero_count width len = (width - (len + 9) % width) % width

-- what follows a message of `len` bytes, of which `place` stand in its last blocks: the mark, zeros, and the number
-- of bits, its high byte first
abbrev pub padding : ℕ → ℕ → ℕ → List ℕ
padding width place len = 128 ∷ replicate (zero_count width place) 0 ++ to_be_bytes w64 (8 * len)

-- a message and its padding
abbrev pub with_padding : ℕ → List ℕ → List ℕ
with_padding width message = message ++ padding width (length message) (length message)
