-- Lists of places, and lists made the same at each place.
use Rattle.ga_core.proofs.CopyLemmas.{map-same}
use Rattle.ga_views.proofs.CallLemmas.{holds-within}
use Rattle.std.proofs.Common.{◌≡◌, ℕ, ◌<◌, ◌∙◌, List, ◌∷◌, ◌++◌, map, replicate}
use Rattle.std.specs.List.{All, range_with_len}

-- a walk over places below n comes to no other
pub below_each : (n : ℕ) (places passed others : List ℕ) (place : ℕ) → All (λ i. i < n) places
    → places ≡ passed ++ place ∷ others → place < n
below_each n = holds-within (λ i. i < n)

-- what is made the same at each place repeats it
pub repeated : {T : Type 0} (made : List T) (item : T) (n : ℕ) → made ≡ map (λ _. item) (range_with_len 0 n)
    → made ≡ replicate n item
repeated made item n same = same ∙ map-same item n
