-- A ring: the items from a place on, and then those before it.
use Rattle.std.proofs.Common.{◌≡◌, ℕ, ◌+◌, ◌<◌, ◌≤◌, ◌∙◌, List, [], ◌∷◌, ◌++◌, append-nil, arith, drop, drop-cons}
use Rattle.std.proofs.Common.{length, length-append, length-drop, take}
use Rattle.std.proofs.Math.ListN.{length-set, set}
use Rattle.std.proofs.lemmas.Grind.{common_steps}
use Rattle.std.proofs.lemmas.List.{drop_all, length-take, take_all}

module _ {X : Type 0} where
  abbrev pub turned : List X → ℕ → List X
  turned items at = drop at items ++ take at items

  pub length-turned : (items : List X) (at : ℕ) → at ≤ length items → length (turned items at) ≡ length items
  length-turned items at within =
      omega (arith, length-append (drop at items) (take at items), length-drop at items, length-take at items)

  -- the ring from its end on is the ring from its start on
  pub ring-round : (items : List X) (n : ℕ) → n ≡ length items → turned items 0 ≡ turned items n
  ring-round items n end =
      rw (drop_all n items (omega (arith, end)), take_all n items (omega (arith, end))) (append-nil items)

  -- `x` is written over the oldest item, which leaves the ring
  pub ring-next : (items : List X) (at : ℕ) (x : X) → at < length items
      → turned (set items at x) (at + 1) ≡ drop 1 (turned items at) ++ x ∷ []
  ring-next items at x here = let oldest = drop-cons items at x here in grind (arith, common_steps)

-- the same, where the place of the oldest moves on
module _ {X : Type 0} (items : List X) (at next : ℕ) (x : X) where
  pub ring_on : next ≡ at + 1 → next < length items
      → drop next (set items at x) ++ take next (set items at x) ≡ drop 1 (drop at items ++ take at items) ++ x ∷ []
  ring_on step inside = rw step (ring-next items at x (omega arith))

  -- from the last place to the first
  pub ring_back : next ≡ 0 → at + 1 ≡ length items
      → drop next (set items at x) ++ take next (set items at x) ≡ drop 1 (drop at items ++ take at items) ++ x ∷ []
  ring_back start last = rw start (ring-round (set items at x) (at + 1) (omega (arith, last, length-set items at x))
      ∙ ring-next items at x (omega arith))

-- an item written into a ring
pub ruleset ring = (ring_on, ring_back)
