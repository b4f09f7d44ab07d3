-- Lists that are made at each place.
use Rattle.std.specs.List.{range_with_len}
use Rattle.std.specs.Prelude.{ℕ, List, map}

-- what f gives of each place below n: a word that doesn't compute, so that a known length stays as it is written
unfoldable pub made : {T : Type 0} → (ℕ → T) → ℕ → List T
made f n = map f (range_with_len 0 n)
