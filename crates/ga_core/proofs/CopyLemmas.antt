-- Copies of one value that equal it, and answers that share a property.
use Rattle.ga_core.specs.Copies.{ExactlyEach, IsExact, Repeats}
use Rattle.ga_core.specs.Runs.{ClosureRun}
use Rattle.std.proofs.Common.{◌≡◌, ℕ, zero, suc, ◌+◌, ◌-◌, List, [], ◌∷◌, ◌++◌, length, map, replicate, refl, ap, ◌∙◌}
use Rattle.std.proofs.Common.{arith, ◌≤◌, slice_index_or, slice_set, sym}
use Rattle.std.proofs.Math.Seq.{set-append_seam}
use Rattle.std.proofs.lemmas.List.{replicate-append-replicate}
use Rattle.std.proofs.lemmas.List.FromFn.{length-range_with_len}
use Rattle.std.proofs.lemmas.List.Elements.{All-cons, All-head, All-nil, All-tail}
use Rattle.std.proofs.lemmas.Simd.{splat_is_map}
use Rattle.std.specs.List.{All, AllZip, range_with_len}

module _ {T : Type 0} where
  -- one item for each number below n
  pub map-same : (item : T) (n : ℕ) → map (λ _. item) (range_with_len 0 n) ≡ replicate n item
  map-same item n = sym (splat_is_map (range_with_len 0 n) n item (length-range_with_len 0 n))

  -- a list of equal values
  all_equal : (item : T) (items : List T) → All (λ x. x ≡ item) items → items ≡ replicate (length items) item
  all_equal item [] all = refl
  all_equal item (x ∷ items) all = λ i. All-head (λ y. y ≡ item) x items all i
      ∷ all_equal item items (All-tail (λ y. y ≡ item) x items all) i

  -- clones that equal the item, and the item behind them
  pub same-with_last : (is_clone : T → T → Type 0) (item : T) (n : ℕ) (clones : List T) → IsExact is_clone item
      → All (is_clone item) clones → length clones + 1 ≡ n → clones ++ item ∷ [] ≡ replicate n item
  same-with_last is_clone item n clones equal all long =
      ap (λ front. front ++ item ∷ []) (all_equal item clones (λ k d within. equal (slice_index_or clones k d) (all k d within)))
      ∙ (replicate-append-replicate (length clones) 1 item ∙ ap (λ k. replicate k item) long)

  -- where a clone equals its source, the copies are equal
  pub Repeats-same : (is_clone : T → T → Type 0) (item : T) (n : ℕ) (array : List T) → IsExact is_clone item
      → Repeats is_clone item n array → array ≡ replicate n item
  Repeats-same is_clone item zero array equal none = none
  Repeats-same is_clone item (suc n) array equal (clones, made, long, all) =
      made ∙ same-with_last is_clone item (suc n) clones equal all (omega (arith, long))

  -- where each clone of an item equals it, clones of the items are the items
  pub AllZip-same : (is_clone : T → T → Type 0) (items copies : List T) → All (IsExact is_clone) items
      → AllZip is_clone items copies → copies ≡ items
  AllZip-same is_clone [] [] exact clones = refl
  AllZip-same is_clone (x ∷ items) (y ∷ copies) exact (clone, clones) =
      λ i. All-head (IsExact is_clone) x items exact y clone i
      ∷ AllZip-same is_clone items copies (All-tail (IsExact is_clone) x items exact) clones i
  AllZip-same is_clone _ _ exact clones = absurd clones

  -- clones over all slots but the last, and the item over the last
  pub Repeats-written : (is_clone : T → T → Type 0) (item : T) (n : ℕ) (clones rest : List T) → length clones + 1 ≡ n
      → length rest ≡ 1 → All (is_clone item) clones
      → Repeats is_clone item n (slice_set (clones ++ rest) (n - 1) item)
  Repeats-written is_clone item (suc n) clones (x ∷ []) long one all =
      let last : suc n - 1 ≡ length clones = omega arith in
      (clones, ap (λ k. slice_set (clones ++ x ∷ []) k item) last ∙ set-append_seam clones x [] item, omega arith, all)
  Repeats-written is_clone item _ clones _ long one all = absurd (omega (arith, long, one))

  -- of no slots, none is written
  pub Repeats-none : (is_clone : T → T → Type 0) (item : T) (slots : List T) → length slots ≤ 0
      → Repeats is_clone item (length slots) slots
  Repeats-none is_clone item [] none = refl
  Repeats-none is_clone item (x ∷ slots) none = absurd (omega (arith, none))

module _ {F X Y : Type 0} (step : F → X → Y → F → Type 0) (P : Y → Type 0) where
  -- P holds of all answers where it holds of the answer of each call
  pub ClosureRun-all : ((f : F) (x : X) (y : Y) (next : F) → step f x y next → P y)
      → (f : F) (xs : List X) (ys : List Y) (last : F) → ClosureRun step f xs ys last → All P ys
  ClosureRun-all each f [] [] last run = All-nil P
  ClosureRun-all each f (x ∷ xs) (y ∷ ys) last run =
      All-cons P y ys (each f x y run.0 run.1) (ClosureRun-all each run.0 xs ys last run.2)
  ClosureRun-all each f _ _ last run = absurd run

module _ {T : Type 0} (P : T → Type 0) where
  -- P holds of each of n items
  pub ExactlyEach-all : (n : ℕ) (items : List T) → length items ≡ n → All P items → ExactlyEach P n items
  ExactlyEach-all zero [] long all = refl
  ExactlyEach-all (suc n) (x ∷ items) long all =
      let others = ExactlyEach-all n items (omega (arith, long)) (All-tail P x items all) in
      (x, items, refl, All-head P x items all, others)
  ExactlyEach-all _ _ long all = absurd (omega (arith, long))
