-- Filling an array of n items, or what is left of a builder, from an iterator.
use Rattle.ga_core.specs.Tries.{try_map}
use Rattle.std.specs.Iterator.{Yields, YieldsThen}
use Rattle.std.specs.Iterator.Runs.{SomeRun, WholeRun}
use Rattle.std.specs.Prelude.{◌≡◌, ◌⊎◌, ℕ, zero, suc, ◌+◌, ◌<◌, IsTrue, List, [], ◌∷◌, ◌++◌, length, map, Option, None}
use Rattle.std.specs.Prelude.{Some, Result, Ok, Err, IsOkAnd, MatchOption, MatchResult}

module _ {S T : Type 0} (next_gives : S → Option T → S → Type 0) where
  -- Calls of `next` led from before to after and gave the items taken: as many as there is room for, or all up to the
  -- end, where that came before.
  abbrev pub Takes : S → ℕ → List T → S → Type 0
  Takes before room taken after =
      (Yields next_gives before taken after × (length taken ≡ room))
      ⊎ (YieldsThen next_gives before taken None after × (length taken < room))

  -- what `Takes` says, as one run of calls that gave items of which P holds: the form that proofs follow along a
  -- chain of std's iterators
  abbrev pub TakeRuns : S → ℕ → (List T → Type 0) → Type 0
  TakeRuns before room P = SomeRun next_gives before
      (λ run. P run.items × ((run.len ≡ room) ⊎ (IsTrue run.whole × (run.len < room))))

  -- n calls of `next`, or fewer where the end comes first, led from before to after: the form that proofs follow
  -- where the iterator is asked on
  abbrev pub Asks : S → ℕ → S → Type 0
  Asks before zero after = before ≡ after
  Asks before (suc n) after = (answer : Option T) × (reached : S) × next_gives before answer reached
      × MatchOption answer (reached ≡ after) (λ _. Asks reached n after)

module _ {S T E : Type 0} (next_gives : S → Option T → S → Type 0) where
  -- Calls of `next` led from before to after: they gave the items taken, and then last. There is an array of these
  -- items where they are n and last is the end. There is none where the end came before n items, or where last is one
  -- item more than n.
  abbrev pub Fills : S → ℕ → Result (List T) E → S → Type 0
  Fills before n result after = (taken : List T) × (last : Option T) × YieldsThen next_gives before taken last after
      × MatchResult result
      (λ array. (array ≡ taken) × (length taken ≡ n) × (last ≡ None))
      (λ _. MatchOption last (length taken < n) (λ _. length taken ≡ n))

module _ {S T E : Type 0} (next_gives : S → Option T → S → Type 0) where
  -- what `Fills` says, as one run of calls: the form that proofs follow along a chain of std's iterators
  abbrev pub FillRuns : S → ℕ → Result (List T) E → Type 0
  FillRuns before n result = MatchResult result
      (λ array. WholeRun next_gives before (λ run. (run.items ≡ array) × (run.len ≡ n)))
      (λ _. SomeRun next_gives before (λ run. (IsTrue run.whole × (run.len < n)) ⊎ (run.len ≡ n + 1)))

module _ {S T E : Type 0} (next_gives : S → Option (Result T E) → S → Type 0) where
  -- `Takes` of good values, or of those before the first error, which is taken too and returned
  abbrev pub TakesGood : S → ℕ → List T → Result Unit E → S → Type 0
  TakesGood before room good result after = MatchResult result
      (λ _. Takes next_gives before room (map Ok good) after)
      (λ error. YieldsThen next_gives before (map Ok good) (Some (Err error)) after × (length good < room))

  -- `Fills` of good values. Where one of the first n items is an error, the first such is returned, and is the last
  -- item taken. An error that comes after n good values is one item more.
  abbrev pub FillsFallibly : {F : Type 0} → S → ℕ → Result (Result (List T) E) F → S → Type 0
  FillsFallibly before n result after = (good : List T) × (last : Option (Result T E))
      × YieldsThen next_gives before (map Ok good) last after
      × MatchResult result
      (λ built. MatchResult built
      (λ array. (array ≡ good) × (length good ≡ n) × (last ≡ None))
      (λ error. (last ≡ Some (Err error)) × (length good < n)))
      (λ _. MatchOption last (length good < n) (λ _. length good ≡ n))

  -- what `TakesGood` says, as one run of calls that gave good values of which P holds
  abbrev pub TakeGoodRuns : S → ℕ → Result Unit E → (List T → Type 0) → Type 0
  TakeGoodRuns before room result P = MatchResult result
      (λ _. TakeRuns next_gives before room (λ items. IsOkAnd (try_map (λ item. item) items) P))
      (λ error. SomeRun next_gives before (λ run. (good : List T) × P good × (run.items ≡ map Ok good ++ Err error ∷ [])
      × (length good < room)))

  -- what `FillsFallibly` says, but not that the items before a wrong length were good, as one run of calls: the form
  -- that proofs follow along a chain of std's iterators
  abbrev pub FillFalliblyRuns : {F : Type 0} → S → ℕ → Result (Result (List T) E) F → Type 0
  FillFalliblyRuns before n result = MatchResult result
      (λ built. MatchResult built
      (λ array. WholeRun next_gives before (λ run. (run.items ≡ map Ok array)
      × (try_map (λ item. item) run.items ≡ Ok array) × (run.len ≡ n)))
      (λ error. SomeRun next_gives before (λ run. (good : List T) × (run.items ≡ map Ok good ++ Err error ∷ [])
      × (length good < n))))
      (λ _. SomeRun next_gives before (λ run. (IsTrue run.whole × (run.len < n)) ⊎ (run.len ≡ n + 1)))
