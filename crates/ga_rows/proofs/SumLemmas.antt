-- Sums of bytes, by a fold.
use Rattle.generic_array.specs.Calls.{MayFold}
use Rattle.generic_array.specs.Entries.{FoldAt}
use Rattle.generic_array.specs.Runs.{FoldRun}
use Rattle.std.proofs.Common.{◌≡◌, ℕ, ◌+◌, ◌*◌, ◌≤◌, List, [], ◌∷◌, length, length-append, arith, ap}

module _ {F I : Type 0} (entry : I → ℕ) (step : F → ℕ → I → ℕ → F → Type 0)
    (rises : (f : F) (a : ℕ) (item : I) (b : ℕ) (g : F) → step f a item b g → b ≤ a + 255) where
  -- each call adds a byte at most
  pub FoldRun-bound : (f : F) (a : ℕ) (xs : List ℕ) (b : ℕ) (g : F) → FoldRun (FoldAt entry step) f a xs b g
      → b ≤ a + 255 * length xs
  FoldRun-bound f a [] b g run = omega (arith, ap (λ p. p.1) run)
  FoldRun-bound f a (x ∷ xs) b g run =
      omega (arith, FoldRun-bound run.0.0 run.0.1 xs b g run.2, rises f a run.1.0 run.0.1 run.0.0 run.1.2)

  -- so it may be called where it may with what so many bytes add up to at most
  pub MayFold-bound : (pre : F → ℕ → I → Type 0) (n : ℕ) → ((f : F) (a : ℕ) (item : I) → a ≤ 255 * n → pre f a item)
      → (f : F) (xs : List ℕ) → length xs ≡ n → MayFold entry pre step f 0 xs
  MayFold-bound pre n may f xs long passed x others reached value whole run item same stays =
      let bound = FoldRun-bound f 0 passed value reached run in
      may reached value item (omega (arith, length-append passed (x ∷ others), ap length whole))
