-- What holds of the answers of a run at the numbers below n, where it was made.
use Rattle.ga_core.proofs.CopyLemmas.{ClosureRun-all, ExactlyEach-all}
use Rattle.ga_core.proofs.RunLemmas.{ClosureRun-length}
use Rattle.ga_core.specs.Copies.{ExactlyEach}
use Rattle.ga_core.specs.Runs.{ClosureRun}
use Rattle.std.proofs.Common.{◌≡◌, ℕ, ◌∙◌, Err, List, Ok, Result, length, IfOk}
use Rattle.std.proofs.lemmas.List.FromFn.{length-range_with_len}
use Rattle.std.specs.List.{All, range_with_len}

module _ {F Y R : Type 0} (step : F → ℕ → Y → F → Type 0) (P : Y → Type 0) where
  -- P holds of n answers where it holds of the answer of each call
  pub IfOk-each : ((f : F) (x : ℕ) (y : Y) (next : F) → step f x y next → P y)
      → (f : F) (n : ℕ) (last : F) (result : Result (List Y) R)
      → IfOk result (λ ys. ClosureRun step f (range_with_len 0 n) ys last)
      → IfOk result (All P) × IfOk result (λ ys. length ys ≡ n) × IfOk result (ExactlyEach P n)
  IfOk-each each f n last (Ok ys) run =
      let all : All P ys = ClosureRun-all step P each f (range_with_len 0 n) ys last run in
      let long : length ys ≡ n =
      ClosureRun-length step f (range_with_len 0 n) ys last run ∙ length-range_with_len 0 n in
      (all, long, ExactlyEach-all P n ys long all)
  IfOk-each each f n last (Err refused) run = (tt, tt, tt)
