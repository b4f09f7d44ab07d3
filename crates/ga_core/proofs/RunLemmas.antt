-- Lemmas on runs of closures, for the builds of this crate and for callers.
use Rattle.ga_core.proofs.JoinedRuns.{ClosureRun-join}
use Rattle.ga_core.specs.Runs.{ClosureRun, TryClosureRun}
use Rattle.std.proofs.Common.{◌≡◌, ℕ, zero, suc, ◌+◌, ◌<◌, List, [], ◌∷◌, ◌++◌, Result, Ok, Err, inl, inr, length, map}
use Rattle.std.proofs.Common.{refl, subst, ap, sym, ◌∙◌, arith, IfOk}
use Rattle.std.proofs.lemmas.List.{map-append, map-id}
use Rattle.std.proofs.lemmas.List.FromFn.{map-range_with_len_more}
use Rattle.std.specs.List.{range_with_len}

-- the numbers below n + 1 are those below n, and n
pub below-add_one : (n : ℕ) → range_with_len 0 (n + 1) ≡ range_with_len 0 n ++ n ∷ []
below-add_one n = sym (map-id (range_with_len 0 (n + 1))) ∙ (map-range_with_len_more (λ k. k) 0 n n (omega arith)
    ∙ ap (λ numbers. numbers ++ n ∷ []) (map-id (range_with_len 0 n)))

-- n numbers, cut before the one at place k
range_with_len-cut : (k n a here : ℕ) → k < n → here ≡ a + k
    → (others : List ℕ) × (range_with_len a n ≡ range_with_len a k ++ here ∷ others)
range_with_len-cut zero (suc n) a here below is =
    (range_with_len (a + 1) n, let same : a ≡ here = omega arith in ap (λ j. j ∷ range_with_len (a + 1) n) same)
range_with_len-cut (suc k) (suc n) a here below is =
    let cut = range_with_len-cut k n (a + 1) here (omega (arith, below)) (omega (arith, is)) in
    (cut.0, ap (λ numbers. a ∷ numbers) cut.1)
range_with_len-cut _ zero a here below is = absurd (omega (arith, below))

module _ {F X Y : Type 0} (step : F → X → Y → F → Type 0) where
  -- a run, and one call after it
  pub ClosureRun-snoc : (f : F) (xs : List X) (ys : List Y) (reached : F) (x : X) (y : Y) (last : F)
      → ClosureRun step f xs ys reached → step reached x y last → ClosureRun step f (xs ++ x ∷ []) (ys ++ y ∷ []) last
  ClosureRun-snoc f xs ys reached x y last run call =
      ClosureRun-join step f xs (x ∷ []) ys (y ∷ []) reached last run (last, call, refl)

  -- there is one answer for each input
  pub ClosureRun-length : (f : F) (xs : List X) (ys : List Y) (last : F) → ClosureRun step f xs ys last
      → length ys ≡ length xs
  ClosureRun-length f [] [] last run = refl
  ClosureRun-length f (x ∷ xs) (y ∷ ys) last run = ap suc (ClosureRun-length run.0 xs ys last run.2)
  ClosureRun-length f _ _ last run = absurd run

module _ {F X Y E : Type 0} (step : F → X → Result Y E → F → Type 0) where
  -- good calls, and one more
  pub ClosureRun-good : (f : F) (xs : List X) (good : List Y) (reached : F) (x : X) (item : Y) (last : F)
      → ClosureRun step f xs (map Ok good) reached → step reached x (Ok item) last
      → ClosureRun step f (xs ++ x ∷ []) (map Ok (good ++ item ∷ [])) last
  ClosureRun-good f xs good reached x item last run call =
      subst (λ answers. ClosureRun step f (xs ++ x ∷ []) answers last) (sym (map-append Ok good (item ∷ [])))
      (ClosureRun-snoc step f xs (map Ok good) reached x (Ok item) last run call)

  -- all calls were good
  pub TryClosureRun-good : (f : F) (xs : List X) (good : List Y) (last : F) → ClosureRun step f xs (map Ok good) last
      → TryClosureRun step f xs (Ok good) last
  TryClosureRun-good f [] [] last run = run
  TryClosureRun-good f (x ∷ xs) (y ∷ good) last run = (run.0, run.1, TryClosureRun-good run.0 xs good last run.2)
  TryClosureRun-good f _ _ last run = absurd run

  -- where all calls were good, there is one answer for each input
  pub TryClosureRun-length : (f : F) (xs : List X) (answer : Result (List Y) E) (last : F) (n : ℕ) → length xs ≡ n
      → TryClosureRun step f xs answer last → IfOk answer (λ ys. length ys ≡ n)
  TryClosureRun-length f [] (Ok []) last n all run = all
  TryClosureRun-length f (x ∷ xs) (Ok (y ∷ ys)) last n all run =
      ap suc (TryClosureRun-length run.0 xs (Ok ys) last (length xs) refl run.2) ∙ all
  TryClosureRun-length f xs (Err error) last n all run = tt
  TryClosureRun-length f _ (Ok _) last n all run = absurd run

  -- an error came after good calls
  pub TryClosureRun-error : (f : F) (xs : List X) (good : List Y) (reached : F) (x : X) (others : List X) (error : E)
      (last : F) → ClosureRun step f xs (map Ok good) reached → step reached x (Err error) last
      → TryClosureRun step f (xs ++ x ∷ others) (Err error) last
  TryClosureRun-error f [] [] reached x others error last run call =
      inl (subst (λ k. step k x (Err error) last) (sym run) call)
  TryClosureRun-error f (w ∷ xs) (y ∷ good) reached x others error last run call =
      inr (y, run.0, run.1, TryClosureRun-error run.0 xs good reached x others error last run.2 call)
  TryClosureRun-error f _ _ reached x others error last run call = absurd run

module _ {F Y E : Type 0} (step : F → ℕ → Result Y E → F → Type 0) where
  -- good calls at the numbers below k, and an error at k
  pub TryClosureRun-at : (f : F) (k n : ℕ) (good : List Y) (reached : F) (error : E) (last : F) → k < n
      → ClosureRun step f (range_with_len 0 k) (map Ok good) reached → step reached k (Err error) last
      → TryClosureRun step f (range_with_len 0 n) (Err error) last
  TryClosureRun-at f k n good reached error last below run call =
      let cut = range_with_len-cut k n 0 k below (omega arith) in
      rw cut.1 (TryClosureRun-error step f (range_with_len 0 k) good reached k cut.0 error last run call)
