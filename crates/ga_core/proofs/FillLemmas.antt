-- A fill, or what is taken of an iterator, as one run of calls, and as so many calls.
pub use Rattle.ga_core.proofs.callers.TakenLemmas.{taken-front, takings}
use Rattle.ga_core.specs.Fill.{Asks, FillFalliblyRuns, FillRuns, Fills, FillsFallibly, TakeGoodRuns, TakeRuns, Takes}
use Rattle.ga_core.specs.Fill.{TakesGood}
use Rattle.ga_core.specs.Tries.{result_and_then, try_map}
use Rattle.std.proofs.Common.{◌≡◌, ◌≢◌, ◌∙◌, ◌⊎◌, ℕ, zero, suc, ◌+◌, ◌-◌, ◌<◌, ◌≤◌, List, [], ◌∷◌, ◌++◌, length}
use Rattle.std.proofs.Common.{length-append, map, ap, arith, refl, subst, sym, true, false, inl, inr, Option, None}
use Rattle.std.proofs.Common.{Some, Result, Ok, Err, IfOk, IsOkAnd, MatchOption, MatchResult, OnErr, true≢false}
use Rattle.std.proofs.lemmas.List.{length-map}
use Rattle.std.proofs.iter.Next.{Yields-more}
use Rattle.std.proofs.iter.runs.Made.{run, to_end, to_item}
use Rattle.std.specs.Iterator.{Yields, YieldsThen}
use Rattle.std.specs.Iterator.Runs.{Run}

-- a builder that isn't full has room
pub has-room : (n width : ℕ) → n ≤ width → (n ≡ width → false ≡ true) → n < width
has-room n width within short =
    let other : n ≢ width = λ full. true≢false (sym (short full)) in
    omega (arith, within)

-- what was appended to a builder that isn't full is less than the room that it had
pub room-left : {T : Type 0} (n : ℕ) (start taken : List T) {built : List T} → built ≡ start ++ taken
    → length built < n → length taken < n - length start
room-left n start taken appended few = omega (arith, length-append start taken, ap length appended, few)

-- What was taken of an iterator, as the lists of items that a builder got show it: as these items, or as good ones.
module _ {S T U : Type 0} (next_gives : S → Option T → S → Type 0) (shown : List U → List T)
    (as_long : (items : List U) → length (shown items) ≡ length items) (before reached : S) where
  -- what was appended to a builder fills its room, or the iterator ended before
  module _ (n : ℕ) (start taken : List U) {built : List U} (appended : built ≡ start ++ taken) where
    pub takes-all : length built ≡ n → Yields next_gives before (shown taken) reached
        → Takes next_gives before (n - length start) (shown taken) reached
    takes-all full calls =
        inl (calls, omega (arith, as_long taken, length-append start taken, ap length appended, full))

    pub takes-to_end : length built < n → YieldsThen next_gives before (shown taken) None reached
        → Takes next_gives before (n - length start) (shown taken) reached
    takes-to_end few calls = inr (calls, omega (arith, as_long taken, room-left n start taken appended few))

  -- What a builder that was empty took, and whether it was full when the iterator ended, is a fill.
  module _ (after : S) (n : ℕ) {start built : List U} (taken : List U) (empty : start ≡ [])
      (appended : built ≡ start ++ taken) where
    same : built ≡ taken
    same = appended ∙ ap (λ items. items ++ taken) empty

    long : length (shown taken) ≡ length built
    long = as_long taken ∙ sym (ap length same)

    room : n - length start ≡ n
    room = omega (arith, ap length empty)

    pub fill-ends : {E : Type 0} (result : Result (List U) E)
        → Takes next_gives before (n - length start) (shown taken) reached
        → IfOk result (λ array. (array ≡ built) × (length built ≡ n) × next_gives reached None after)
        → OnErr result (((length built ≢ n) × (after ≡ reached))
        ⊎ ((length built ≡ n) × ((more : T) × next_gives reached (Some more) after)))
        → (last : Option T) × YieldsThen next_gives before (shown taken) last after × MatchResult result
        (λ array. (array ≡ taken) × (length taken ≡ n) × (last ≡ None))
        (λ _. MatchOption last (length taken < n) (λ _. length taken ≡ n))
    fill-ends (Ok array) (inl (calls, all)) (made, full, end) _ =
        (None, (reached, calls, end), (made ∙ same, sym (ap length same) ∙ full, refl))
    fill-ends (Ok array) (inr (calls, short)) (made, full, end) _ = absurd (omega (arith, long, room, short, full))
    fill-ends (Err error) (inl (calls, all)) _ (inl (other, still)) = absurd (other (sym long ∙ (all ∙ room)))
    fill-ends (Err error) (inl (calls, all)) _ (inr (full, (more, call))) =
        (Some more, (reached, calls, call), sym (ap length same) ∙ full)
    fill-ends (Err error) (inr (calls, short)) _ (inl (other, still)) =
        (None, (rw (← still) at calls), omega (arith, as_long taken, room, short))
    fill-ends (Err error) (inr (calls, short)) _ (inr (full, more)) = absurd (omega (arith, long, room, short, full))

module _ {S T : Type 0} (next_gives : S → Option T → S → Type 0) where
  -- the run up to the end, and the one up to an item
  abbrev ended : (before : S) (taken : List T) (after : S) → YieldsThen next_gives before taken None after
      → Run next_gives
  ended before taken after calls = run next_gives before taken true (to_end next_gives before taken (after, calls))

  abbrev stopped : (before : S) (taken : List T) (item : T) (after : S)
      → YieldsThen next_gives before taken (Some item) after → Run next_gives
  stopped before taken item after calls =
      run next_gives before (taken ++ item ∷ []) false (to_item next_gives before after taken item calls)

  pub TakeRuns-from_takes : (P : List T → Type 0) (before : S) (room : ℕ) (taken : List T) (after : S)
      → Takes next_gives before room taken after → P taken → TakeRuns next_gives before room P
  TakeRuns-from_takes P before room taken after (inl (calls, all)) holds =
      (run next_gives before taken false (after, calls, λ whole. cc), refl, (holds, inl all))
  TakeRuns-from_takes P before room taken after (inr (calls, short)) holds =
      (ended before taken after calls, refl, (holds, inr (refl, short)))

  -- what is taken behind other items, as one run with these
  pub takes-on : (before mid after : S) (first taken : List T) (n : ℕ) → Yields next_gives before first mid
      → Takes next_gives mid n taken after → Takes next_gives before (length first + n) (first ++ taken) after
  takes-on before mid after [] taken n calls (inl (gave, all)) =
      inl (subst (λ s. Yields next_gives s taken after) (sym calls) gave, omega (arith, all))
  takes-on before mid after [] taken n calls (inr (gave, short)) =
      inr (subst (λ s. YieldsThen next_gives s taken None after) (sym calls) gave, omega (arith, short))
  takes-on before mid after (item ∷ first) taken n calls takes =
      elim (takes-on calls.0 mid after first taken n calls.2 takes) [
        | inl all ↦ inl ((calls.0, calls.1, all.0), omega (arith, all.1))
        | inr short ↦ inr ((short.0.0, (calls.0, calls.1, short.0.1), short.0.2), omega (arith, short.1))
      ]

  -- where as many were taken as there was room for, or fewer
  pub takes-of_all : (before after : S) (taken : List T) (n : ℕ) → Takes next_gives before n taken after → length taken ≡ n
      → Yields next_gives before taken after
  takes-of_all before after taken n (inl (gave, all)) _ = gave
  takes-of_all before after taken n (inr (gave, short)) long = absurd (omega (arith, short, long))

  pub takes-of_few : (before after : S) (taken : List T) (n more : ℕ) → Takes next_gives before n taken after
      → length taken < n → n ≤ more → Takes next_gives before more taken after
  takes-of_few before after taken n more (inl (gave, all)) few _ = absurd (omega (arith, all, few))
  takes-of_few before after taken n more (inr (gave, short)) few least = inr (gave, omega (arith, few, least))

  -- so many items are so many calls
  asks_all : (before : S) (taken : List T) (n : ℕ) (after : S) → length taken ≡ n
      → Yields next_gives before taken after → Asks next_gives before n after
  asks_all before [] zero after all calls = calls
  asks_all before (item ∷ taken) (suc n) after all calls =
      (Some item, calls.0, calls.1, asks_all calls.0 taken n after (omega (arith, all)) calls.2)
  asks_all before _ _ after all calls = absurd (omega (arith, all))

  -- the end came within so many calls
  asks_to_end : (before : S) (taken : List T) (n : ℕ) (after : S) → length taken < n
      → YieldsThen next_gives before taken None after → Asks next_gives before n after
  asks_to_end before [] (suc n) after short (reached, calls, end) =
      (None, after, subst (λ s. next_gives s None after) (sym calls) end, refl)
  asks_to_end before (item ∷ taken) (suc n) after short (reached, calls, end) =
      (Some item, calls.0, calls.1, asks_to_end calls.0 taken n after (omega (arith, short)) (reached, calls.2, end))
  asks_to_end before _ zero after short calls = absurd (omega (arith, short))

  pub Asks-from_takes : (before : S) (room : ℕ) (taken : List T) (after : S) → Takes next_gives before room taken after
      → Asks next_gives before room after
  Asks-from_takes before room taken after (inl (calls, all)) = asks_all before taken room after all calls
  Asks-from_takes before room taken after (inr (calls, short)) = asks_to_end before taken room after short calls

  pub Asks-from_fill : {E : Type 0} (before : S) (n : ℕ) (result : Result (List T) E) (after : S)
      → Fills next_gives before n result after → Asks next_gives before (n + 1) after
  Asks-from_fill before n (Ok array) after (taken, last, calls, whole) =
      asks_to_end before taken (n + 1) after (omega (arith, whole.1)) (rw whole.2 at calls)
  Asks-from_fill before n (Err error) after (taken, None, calls, short) =
      asks_to_end before taken (n + 1) after (omega (arith, short)) calls
  Asks-from_fill before n (Err error) after (taken, Some item, (reached, calls, call), full) =
      asks_all before (taken ++ item ∷ []) (n + 1) after (omega (arith, length-append taken (item ∷ []), full))
      (Yields-more next_gives before taken reached item after calls call)

module _ {S T E : Type 0} (next_gives : S → Option T → S → Type 0) where
  pub FillRuns-from_fill : (before : S) (n : ℕ) (result : Result (List T) E) (after : S)
      → Fills next_gives before n result after → FillRuns next_gives before n result
  FillRuns-from_fill before n (Ok array) after (taken, last, calls, whole) =
      (ended next_gives before taken after (rw whole.2 at calls), refl, refl, (sym whole.0, whole.1))
  FillRuns-from_fill before n (Err error) after (taken, None, calls, short) =
      (ended next_gives before taken after calls, refl, inl (refl, short))
  FillRuns-from_fill before n (Err error) after (taken, Some item, calls, full) =
      (stopped next_gives before taken item after calls, refl, inr (omega (arith, length-append taken (item ∷ []), full)))

-- good values are all good
pub all_good : {T E : Type 0} (good : List T) → try_map (λ (item : Result T E). item) (map Ok good) ≡ Ok good
all_good [] = refl
all_good (item ∷ good) = ap (result_and_then (λ items. Ok (item ∷ items))) (all_good good)

module _ {S T E : Type 0} (next_gives : S → Option (Result T E) → S → Type 0) where
  pub TakeGoodRuns-from_takes : (P : List T → Type 0) (before : S) (room : ℕ) (good : List T) (result : Result Unit E)
      (after : S)
      → TakesGood next_gives before room good result after → P good → TakeGoodRuns next_gives before room result P
  TakeGoodRuns-from_takes P before room good (Ok done) after takes holds =
      TakeRuns-from_takes next_gives (λ items. IsOkAnd (try_map (λ item. item) items) P) before room (map Ok good) after
      takes (rw (all_good good) holds)
  TakeGoodRuns-from_takes P before _ good (Err error) after (calls, short) holds =
      (stopped next_gives before (map Ok good) (Err error) after calls, refl, (good, holds, refl, short))

module _ {S T E F : Type 0} (next_gives : S → Option (Result T E) → S → Type 0) where
  pub FillFalliblyRuns-from_fill : (before : S) (n : ℕ) (result : Result (Result (List T) E) F) (after : S)
      → FillsFallibly next_gives before n result after → FillFalliblyRuns next_gives before n result
  FillFalliblyRuns-from_fill before n (Ok (Ok array)) after (good, last, calls, whole) =
      let all = ended next_gives before (map Ok good) after (rw whole.2 at calls) in
      let same = sym whole.0 in
      let long = length-map {B = Result T E} good Ok in
      (all, refl, refl, (ap (map Ok) same, all_good good ∙ ap Ok same, long ∙ whole.1))
  FillFalliblyRuns-from_fill before n (Ok (Err error)) after (good, last, calls, first) =
      (stopped next_gives before (map Ok good) (Err error) after (rw first.0 at calls), refl, (good, refl, first.1))
  FillFalliblyRuns-from_fill before n (Err refused) after (good, last, calls, short) =
      let long = length-map {B = Result T E} good Ok in
      FillRuns-from_fill next_gives before n (Err refused) after
      (map Ok good, last, calls, subst (λ k. MatchOption last (k < n) (λ _. k ≡ n)) (sym long) short)
