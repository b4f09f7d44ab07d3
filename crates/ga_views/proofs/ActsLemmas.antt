-- What runs of a closure come to, where it acts as a function: each call answers h, and leaves the closure as it is.
use Rattle.ga_views.specs.Calls.{MayFold}
use Rattle.ga_views.specs.Entries.{ActsInFold, FoldAt}
use Rattle.ga_views.specs.Runs.{ClosureRun, TryClosureRun, FoldRun}
use Rattle.ga_views.specs.Tries.{try_map}
use Rattle.std.proofs.Common.{◌≡◌, ℕ, ◌+◌, ◌<◌, List, [], ◌∷◌, Result, Ok, Err, inl, inr, ap, arith, fold, map, refl}
use Rattle.std.proofs.Common.{sym, ◌∙◌, map-id, sum_by}
use Rattle.std.proofs.lemmas.List.Sums.{sum_by-append, sum_by-cons}

module _ {F X Y Z : Type 0} (step : F → X → Y → F → Type 0) (f : F) (view : Y → Z) (h : X → Z) where
  -- the views of what a run answers are h of each input
  pub views_of_run : (xs : List X) (ys : List Y) (last : F) → ClosureRun step f xs ys last
      → ((x : X) (y : Y) (next : F) → step f x y next → (next ≡ f) × (view y ≡ h x)) → map view ys ≡ map h xs
  views_of_run [] [] last run acts = refl
  views_of_run (x ∷ xs) (y ∷ ys) last run acts =
      let call = acts x y run.0 run.1 in
      cc (call.1, views_of_run xs ys last (rw call.0 at run.2) acts)
  views_of_run _ _ last run acts = absurd run

module _ {F X Y : Type 0} (step : F → X → Y → F → Type 0) (f : F) (h : X → Y)
    (acts : (x : X) (y : Y) (next : F) → step f x y next → (next ≡ f) × (y ≡ h x)) where
  -- a run answers h of each input
  pub answers_of_run : (xs : List X) (ys : List Y) (last : F) → ClosureRun step f xs ys last → ys ≡ map h xs
  answers_of_run xs ys last run = sym (map-id ys) ∙ views_of_run step f (λ y. y) h xs ys last run acts

module _ {F X Y E : Type 0} (step : F → X → Result Y E → F → Type 0) (f : F) (h : X → Result Y E)
    (acts : (x : X) (y : Result Y E) (next : F) → step f x y next → (next ≡ f) × (y ≡ h x)) where
  -- a run up to the first error answers all good answers of h, or its first error
  pub answers_until_error : (xs : List X) (answer : Result (List Y) E) (last : F) → TryClosureRun step f xs answer last
      → answer ≡ try_map h xs
  answers_until_error [] (Ok []) last run = refl
  answers_until_error (x ∷ xs) (Ok (y ∷ ys)) last run =
      let call = acts x (Ok y) run.0 run.1 in
      rw (← call.1, ← answers_until_error xs (Ok ys) last (rw call.0 at run.2))
  answers_until_error (x ∷ xs) (Err error) last run =
      elim run [
        | inl failed ↦ rw (← (acts x (Err error) last failed).1)
        | inr good ↦
            let call = acts x (Ok good.0) good.1 good.2 in
            rw (← call.1, ← answers_until_error xs (Err error) last (rw call.0 at good.3))
      ]
  answers_until_error _ _ last run = absurd run

module _ {F A X : Type 0} (step : F → A → X → A → F → Type 0) (f : F) (h : A → X → A)
    (acts : (a : A) (x : X) (b : A) (next : F) → step f a x b next → (next ≡ f) × (b ≡ h a x)) where
  -- a fold is the fold of h
  pub answer_of_fold : (a : A) (xs : List X) (b : A) (last : F) → FoldRun step f a xs b last → b ≡ fold h a xs
  answer_of_fold a [] b last run = sym (ap (λ p. p.1) run)
  answer_of_fold a (x ∷ xs) b last run =
      let call = acts a x run.0.1 run.0.0 run.1 in
      answer_of_fold run.0.1 xs b last (rw call.0 at run.2) ∙ ap (λ c. fold h c xs) call.1

module _ {I T F A B : Type 0} (entry : I → T) (step : F → A → I → B → F → Type 0) (f : F) (h : A → T → B)
    (acts : ActsInFold entry step f h) where
  -- a call at an entry answers h of what the entry stands for
  pub fold_call_at : (a : A) (x : T) (b : B) (next : F) → FoldAt entry step f a x b next → (next ≡ f) × (b ≡ h a x)
  fold_call_at a x b next call = let o = acts a call.0 b next call.2 in (o.0, o.1 ∙ ap (h a) call.1)

module _ {I T F A : Type 0} (entry : I → T) (step : F → A → I → A → F → Type 0) (f : F) (h : A → T → A)
    (acts : ActsInFold entry step f h) where
  -- a fold over entries is the fold of h
  pub fold_at_entries : (a : A) (xs : List T) (b : A) (last : F) → FoldRun (FoldAt entry step) f a xs b last
      → b ≡ fold h a xs
  fold_at_entries = answer_of_fold (FoldAt entry step) f h (fold_call_at entry step f h acts)

module _ {F X : Type 0} (value : X → ℕ) (step : F → ℕ → X → ℕ → F → Type 0) where
  -- each call adds a value, so a fold adds their sum
  fold-sum : ((f : F) (a : ℕ) (x : X) (b : ℕ) (next : F) → step f a x b next → b ≡ a + value x)
      → (f : F) (a : ℕ) (xs : List X) (b : ℕ) (last : F) → FoldRun step f a xs b last → b ≡ a + sum_by value xs
  fold-sum adds f a [] b last run = omega (arith, ap (λ p. p.1) run)
  fold-sum adds f a (x ∷ xs) b last run =
      let others = fold-sum adds run.0.0 run.0.1 xs b last run.2 in
      omega (arith, others, adds f a x run.0.1 run.0.0 run.1, sum_by-cons value x xs)

module _ {F I X : Type 0} (entry : I → X) (value : X → ℕ) (step : F → ℕ → I → ℕ → F → Type 0)
    (pre : F → ℕ → I → Type 0) where
  -- A fold that adds values may be made where their sum is below a bound, below which each call may be made. With
  -- `search rules` for the facts on one call this is the whole of a caller's condition.
  pub sum_is_callable : (f : F) (xs : List X) (bound : ℕ)
      → ((f : F) (a : ℕ) (item : I) (b : ℕ) (next : F) → step f a item b next → b ≡ a + value (entry item))
      → ((f : F) (a : ℕ) (item : I) → a + value (entry item) < bound → pre f a item)
      → sum_by value xs < bound → MayFold entry pre step f 0 xs
  sum_is_callable f xs bound adds may within passed x others reached so_far whole run item is stays =
      let at_entry : (f : F) (a : ℕ) (x : X) (b : ℕ) (next : F) → FoldAt entry step f a x b next → b ≡ a + value x =
      λ f a x b next call. adds f a call.0 b next call.2 ∙ ap (λ y. a + value y) call.1 in
      let sum = fold-sum value (FoldAt entry step) at_entry f 0 passed so_far reached run in
      let parts = ap (sum_by value) whole ∙ sum_by-append value passed (x ∷ others) in
      may reached so_far item (omega (arith, sum, parts, sum_by-cons value x others, ap value is, within))
