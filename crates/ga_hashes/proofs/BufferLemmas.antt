-- Calls at blocks in turn, and messages that are fed.
use Rattle.ga_hashes.specs.BlockBuffer.{HasFed, MayTake, TakesEach}
use Rattle.ga_core.proofs.JoinLemmas.{chunk_rest-joined, rows-joined}
use Rattle.ga_core.proofs.CallLemmas.{may_map-at}
use Rattle.ga_core.proofs.JoinedRuns.{ClosureRun-join, MayMap-first, MayMap-second}
use Rattle.ga_core.proofs.RowLemmas.{chunk_rest-few, rows-few}
use Rattle.ga_core.specs.Entries.{CallAt}
use Rattle.ga_core.specs.Rows.{chunk_rest, rows}
use Rattle.std.proofs.Common.{◌≡◌, ℕ, ◌<◌, List, [], ◌∷◌, ◌++◌, length, refl, sym, append_assoc}

module _ {V F : Type 0} (bytes_of : V → List ℕ) (step : F → V → Unit {0} → F → Type 0) where
  -- calls at some blocks, and then at others
  pub TakesEach-join : (f : F) (xs ys : List (List ℕ)) (between last : F) → TakesEach bytes_of step f xs between
      → TakesEach bytes_of step between ys last → TakesEach bytes_of step f (xs ++ ys) last
  TakesEach-join f xs ys between last first then =
      (_, ClosureRun-join (CallAt bytes_of step) f xs ys first.0 then.0 between last first.1 then.1)

  -- no call at no block
  pub TakesEach-none : (f : F) (blocks : List (List ℕ)) → blocks ≡ [] → TakesEach bytes_of step f blocks f
  TakesEach-none f blocks none = rw none ([], refl)

  -- a call at one block, and then at others
  pub TakesEach-first : (f : F) (v : V) (others : List (List ℕ)) (between last : F) → step f v tt between
      → TakesEach bytes_of step between others last → TakesEach bytes_of step f (bytes_of v ∷ others) last
  TakesEach-first f v others between last call then = (tt ∷ then.0, (between, (v, refl, call), then.1))

  module _ (pre : F → V → Type 0) (width : ℕ) where
    -- what a call asks at a block of the width
    abbrev asks : F → V → Type 0
    asks g view = length (bytes_of view) ≡ width → pre g view

    -- what may be called at joined blocks may be called at the first of them
    pub MayTake-front : (f : F) (xs ys : List (List ℕ)) → MayTake bytes_of step pre width f (xs ++ ys)
        → MayTake bytes_of step pre width f xs
    MayTake-front f xs ys may = MayMap-first bytes_of asks step f xs ys may

    -- and then at the others
    pub MayTake-behind : (f : F) (xs ys : List (List ℕ)) (between : F) → MayTake bytes_of step pre width f (xs ++ ys)
        → TakesEach bytes_of step f xs between → MayTake bytes_of step pre width between ys
    MayTake-behind f xs ys between may taken =
        MayMap-second bytes_of asks step f xs ys taken.0 between may taken.1

    -- a call at the first block may be made
    pub MayTake-first : (f : F) (v : V) (others : List (List ℕ)) → length (bytes_of v) ≡ width
        → MayTake bytes_of step pre width f (bytes_of v ∷ others) → pre f v
    MayTake-first f v others full may =
        may_map-at bytes_of asks step f (bytes_of v ∷ others) may [] _ others [] f refl refl v refl full

    -- and then those at the others
    pub MayTake-others : (f : F) (v : V) (others : List (List ℕ)) (between : F) → step f v tt between
        → MayTake bytes_of step pre width f (bytes_of v ∷ others) → MayTake bytes_of step pre width between others
    MayTake-others f v others between call may =
        MayTake-behind f (bytes_of v ∷ []) others between may (TakesEach-first f v [] between between call ([], refl))

-- A message that is fed.
module _ {V F : Type 0} {bytes_of : V → List ℕ} {step : F → V → Unit {0} → F → Type 0} {width : ℕ}
    (some : 0 < width) where
  -- fewer bytes than a block are kept, with no call
  pub HasFed-few : {f : F} {bytes : List ℕ} → length bytes < width → HasFed bytes_of step width f bytes bytes f
  HasFed-few {f} {bytes} few = record {
    blocks = TakesEach-none bytes_of step f (rows width bytes) (rows-few width bytes few);
    rest = sym (chunk_rest-few width bytes few);
  }

  -- more bytes
  pub HasFed-more : {first f last : F} {message kept left : List ℕ} (bytes : List ℕ)
      → HasFed bytes_of step width first message kept f
      → TakesEach bytes_of step f (rows width (kept ++ bytes)) last → left ≡ chunk_rest width (kept ++ bytes)
      → HasFed bytes_of step width first (message ++ bytes) left last
  HasFed-more {first} {f} {last} {message} bytes fed taken rest =
      record {
        blocks = rw (rows-joined width some message bytes, ← fed.rest)
            (TakesEach-join bytes_of step first (rows width message) _ f last fed.blocks taken);
        rest = rw (chunk_rest-joined width some message bytes, ← fed.rest) rest;
      }

  -- and when these may be fed
  pub MayTake-more : (pre : F → V → Type 0) {first f : F} {all message kept : List ℕ} (bytes more : List ℕ)
      → all ≡ message ++ (bytes ++ more) → MayTake bytes_of step pre width first (rows width all)
      → HasFed bytes_of step width first message kept f → MayTake bytes_of step pre width f (rows width (kept ++ bytes))
  MayTake-more pre {first} {f} {all} {message} {kept} bytes more whole may fed =
      MayTake-front bytes_of step pre width f (rows width (kept ++ bytes)) _
      (rw (← append_assoc kept bytes more, rows-joined width some (kept ++ bytes) more) at
      (MayTake-behind bytes_of step pre width first (rows width message) (rows width (kept ++ (bytes ++ more))) f
      (rw (whole, rows-joined width some message (bytes ++ more), ← fed.rest) at may) fed.blocks))

-- Calls at the blocks passed led from f₀ to f, and those at the blocks that are left may be made.
pub record BlocksLeft {V F : Type 0} (bytes_of : V → List ℕ) (step : F → V → Unit {0} → F → Type 0)
    (pre : F → V → Type 0) (width : ℕ) (f₀ : F) (all : List (List ℕ)) (f : F) (left : List (List ℕ)) : Type 0 where
  pub may : MayTake bytes_of step pre width f left
  pub then : (last : F) → TakesEach bytes_of step f left last → TakesEach bytes_of step f₀ all last

module _ {V F : Type 0} {bytes_of : V → List ℕ} {step : F → V → Unit {0} → F → Type 0} {pre : F → V → Type 0}
    {width : ℕ} {f₀ : F} {all : List (List ℕ)} {f : F} where
  -- the next call may be made
  pub BlocksLeft-callable : (v : V) {left others : List (List ℕ)} → left ≡ bytes_of v ∷ others
      → length (bytes_of v) ≡ width → BlocksLeft bytes_of step pre width f₀ all f left → pre f v
  BlocksLeft-callable v {others = others} next full state =
      MayTake-first bytes_of step pre width f v others full (rw next at state.may)

  -- it was made
  pub BlocksLeft-more : (v : V) {left others : List (List ℕ)} (g : F) → left ≡ bytes_of v ∷ others → step f v tt g
      → BlocksLeft bytes_of step pre width f₀ all f left → BlocksLeft bytes_of step pre width f₀ all g others
  BlocksLeft-more v {others = others} g next call state = record {
    may = MayTake-others bytes_of step pre width f v others g call (rw next at state.may);
    then = λ last taken. state.then last (rw next (TakesEach-first bytes_of step f v others g last call taken));
  }

  -- no block is left
  pub BlocksLeft-end : {left : List (List ℕ)} → left ≡ [] → BlocksLeft bytes_of step pre width f₀ all f left
      → TakesEach bytes_of step f₀ all f
  BlocksLeft-end {left} none state = state.then f (TakesEach-none bytes_of step f left none)

module _ {V F : Type 0} {bytes_of : V → List ℕ} {step : F → V → Unit {0} → F → Type 0} {pre : F → V → Type 0}
    {width : ℕ} {f : F} {all : List (List ℕ)} where
  -- no block has passed
  pub BlocksLeft-start : (left : List (List ℕ)) → left ≡ all → MayTake bytes_of step pre width f all
      → BlocksLeft bytes_of step pre width f all f left
  BlocksLeft-start left same may = record { may = rw same may; then = λ last taken. rw (← same) taken }
