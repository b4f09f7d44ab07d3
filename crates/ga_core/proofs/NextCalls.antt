-- One call more over the items of a slice: at the next item, with its answer written to the slot of the same index.
use Rattle.ga_core.proofs.MoveLemmas.{next-here, take-one_more}
use Rattle.ga_core.proofs.RunLemmas.{TryClosureRun-error}
use Rattle.ga_core.specs.Runs.{ClosureRun, TryClosureRun}
use Rattle.std.proofs.Common.{◌≡◌, ◌∙◌, ℕ, ◌+◌, ◌<◌, ◌≤◌, List, [], ◌∷◌, ◌++◌, ap, arith, drop, length, sym}
use Rattle.std.proofs.Common.{slice_index_or, slice_set, subst, take, Result, Ok, Err, map}
use Rattle.std.proofs.lemmas.Grind.{drop_more_same}
use Rattle.std.proofs.lemmas.List.{drop-set-lt, take-append-drop, take_all, take_more_set}
use Rattle.std.specs.List.{range_with_len}

-- a place in a list is one in another that is as long
pub place-in : {n width other : ℕ} → n < width → other ≡ width → n < other
place-in some same = omega arith

-- where a list ends, another ends that is as long
pub all-in : {n width other : ℕ} → width ≤ n → other ≡ width → other ≤ n
all-in none same = omega arith

-- calls at all items, whose answers are in all slots
pub run-of_all : {X Y : Type 0} (Run : List X → List Y → Type 0) (n : ℕ) (items : List X) (slots : List Y)
    → length items ≤ n → length slots ≤ n → Run (take n items) (take n slots) → Run items slots
run-of_all Run n items slots passed full run =
    rw (← take_all n slots full, ← take_all n items passed) run

-- the same of the numbers below as many as there are slots
pub run-of_numbers : {Y : Type 0} (Run : List ℕ → List Y → Type 0) {n total : ℕ} (slots : List Y) → total ≤ n
    → n ≤ total → length slots ≡ total → Run (range_with_len 0 n) (take n slots) → Run (range_with_len 0 total) slots
run-of_numbers Run {n} {total} slots most least full run =
    let all : n ≡ total = omega arith in
    subst (λ k. Run (range_with_len 0 k) slots) all (rw (← take_all n slots (omega arith)) run)

-- The calls at the items before the index gave what is written to the slots before it, and the other items stand in
-- their slots. Run says which calls, with which answers, led to the state that was reached.
pub record WrittenSoFar {F X Y : Type 0} (Run : List X → List Y → F → Type 0) (index : ℕ) (items left : List X)
    (slots : List Y) (reached : F) : Type 0 where
  pub run : Run (take index items) (take index slots) reached
  pub behind : drop index left ≡ drop index items

module _ {F X Y : Type 0} {Run : List X → List Y → F → Type 0} {n : ℕ} {items left : List X} {slots : List Y}
    {reached : F} where
  -- the items are those before the index, the item that stands there, and the others
  pub cut-next : {item : X} → WrittenSoFar Run n items left slots reached → n < length left
      → item ≡ slice_index_or left n item → items ≡ take n items ++ item ∷ drop (n + 1) left
  cut-next {item} so_far some this = sym (take-append-drop n items)
      ∙ ap (λ l. take n items ++ l) (next-here n items left item some this so_far.behind)

  -- a call at that item was made, and its answer was written
  pub written-next : {item : X} (y : Y) (last : F) (after : List X) → drop (n + 1) after ≡ drop (n + 1) left
      → WrittenSoFar Run n items left slots reached → n < length left → n < length slots
      → item ≡ slice_index_or left n item → Run (take n items ++ item ∷ []) (take n slots ++ y ∷ []) last
      → WrittenSoFar Run (n + 1) items after (slice_set slots n y) last
  written-next {item} y last after same so_far some room this longer =
      let here = next-here n items left item some this so_far.behind in
      record {
        run = rw (take_more_set slots n y room, take-one_more n items _ item here) longer;
        behind = same ∙ drop_more_same left items n so_far.behind;
      }

  -- the same, where the item was taken out of its slot
  pub taken-next : {item : X} (y : Y) (last : F) (blank : X) → WrittenSoFar Run n items left slots reached → n < length left
      → n < length slots → item ≡ slice_index_or left n item
      → Run (take n items ++ item ∷ []) (take n slots ++ y ∷ []) last
      → WrittenSoFar Run (n + 1) items (slice_set left n blank) (slice_set slots n y) last
  taken-next y last blank = written-next y last (slice_set left n blank)
      (drop-set-lt (n + 1) left n blank (omega arith))

  -- calls at all items were made, and their answers are in all slots
  pub written-all : WrittenSoFar Run n items left slots reached → length items ≤ n → length slots ≤ n
      → Run items slots reached
  written-all so_far passed full = run-of_all (λ xs ys. Run xs ys reached) n items slots passed full so_far.run

module _ {F X Y E : Type 0} (step : F → X → Result Y E → F → Type 0) (f : F) {n : ℕ} {items left : List X}
    {slots : List Y} {reached : F} where
  -- the call at the next item failed
  pub failed-next : (item : X) (error : E) (last : F)
      → WrittenSoFar (λ xs good. ClosureRun step f xs (map Ok good)) n items left slots reached → n < length left
      → item ≡ slice_index_or left n item → step reached item (Err error) last
      → TryClosureRun step f items (Err error) last
  failed-next item error last so_far some this call =
      subst (λ xs. TryClosureRun step f xs (Err error) last) (sym (cut-next so_far some this))
      (TryClosureRun-error step f (take n items) (take n slots) reached item (drop (n + 1) left) error last so_far.run call)
