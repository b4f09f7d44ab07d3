-- Arrays of copies of one value, and of defaults.
use Rattle.std.specs.List.{All}
use Rattle.std.specs.Prelude.{◌≡◌, ℕ, zero, suc, List, [], ◌∷◌, ◌++◌, length}

module _ {T : Type 0} (is_clone : T → T → Type 0) (item : T) where
  -- n values: clones of the item, and last the item itself
  abbrev pub Repeats : ℕ → List T → Type 0
  Repeats zero array = array ≡ []
  Repeats (suc n) array = (clones : List T) × (array ≡ clones ++ item ∷ []) × (length clones ≡ n)
      × All (is_clone item) clones

-- each clone of the item equals it
abbrev pub IsExact : {T : Type 0} → (T → T → Type 0) → T → Type 0
IsExact {T} is_clone item = (copy : T) → is_clone item copy → copy ≡ item

module _ {T : Type 0} (P : T → Type 0) where
  -- n items, of each of which P holds: said item by item, so that a search learns all of them at a length that is a
  -- number
  abbrev pub ExactlyEach : ℕ → List T → Type 0
  ExactlyEach zero items = items ≡ []
  ExactlyEach (suc n) items = (item : T) × (others : List T) × (items ≡ item ∷ others) × P item × ExactlyEach n others
