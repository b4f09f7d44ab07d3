-- The entries that a sequence's `into_iter` gives, and calls at them as they come. An entry stands for a value: in a
-- view it is a reference to it.
use Rattle.std.specs.Iterator.{AlwaysYields, Count, IsFinite}
use Rattle.std.specs.Prelude.{◌≡◌, ℕ, Option, None, Some, List, length}

module _ {S I T : Type 0} (can_next : S → Type 0) (next_gives : S → Option I → S → Type 0) (remaining : S → Count) where
  -- the iterator may be asked, ends, and gives entries that stand for the values, in order
  abbrev pub GivesEntries : (I → T) → S → List T → Type 0
  GivesEntries entry entries values = can_next entries × IsFinite (remaining entries)
      × AlwaysYields next_gives entry entries values

  -- what `into_iter` gives of a sequence gives an entry for each of its items, in order, and then ends
  abbrev pub GivesEntriesOf : {Q : Type 0} → (Q → S → Type 0) → (Q → List T) → (I → T) → Type 0
  GivesEntriesOf {Q} into_iter_gives items entry = (sequence : Q) (entries : S) → into_iter_gives sequence entries
      → GivesEntries entry entries (items sequence)

  -- P holds of some values that the entries stand for
  abbrev pub SomeEntries : S → ((I → T) → List T → Type 0) → Type 0
  SomeEntries entries P = (entry : I → T) × (values : List T) × GivesEntries entry entries values × P entry values

  -- the same of n values
  abbrev pub SomeEntriesOf : ℕ → S → ((I → T) → List T → Type 0) → Type 0
  SomeEntriesOf n entries P = (entry : I → T) × (values : List T) × GivesEntries entry entries values
      × (length values ≡ n) × P entry values

  -- P holds of all values that the entries stand for
  abbrev pub AllEntries : S → ((I → T) → List T → Type 0) → Type 0
  AllEntries entries P = (entry : I → T) (values : List T) → GivesEntries entry entries values → P entry values

  -- the same of n values
  abbrev pub AllEntriesOf : ℕ → S → ((I → T) → List T → Type 0) → Type 0
  AllEntriesOf n entries P = (entry : I → T) (values : List T) → GivesEntries entry entries values
      → length values ≡ n → P entry values

module _ {S I F : Type 0} (can_next : S → Type 0) (next_gives : S → Option I → S → Type 0) where
  -- the iterator may be asked and has not ended, and f may be called at what it gives
  abbrev pub MayCallAtNext : (F → I → Type 0) → S → F → Type 0
  MayCallAtNext pre entries f = can_next entries
      × ((after : S) → next_gives entries None after → ⊥)
      × ((item : I) (after : S) → next_gives entries (Some item) after → pre f item)

  -- a call of f at what it gave, after which it may be asked again
  abbrev pub CallAtNext : {Y : Type 0} → (F → I → Y → F → Type 0) → S → F → Y → S → F → Type 0
  CallAtNext step entries f y after g = ((item : I) × next_gives entries (Some item) after × step f item y g)
      × can_next after

module _ {S R I J F : Type 0} (can_next : S → Type 0) (next_gives : S → Option I → S → Type 0)
    (other_can_next : R → Type 0) (other_gives : R → Option J → R → Type 0) where
  -- the same of two iterators, and f may be called at what the two give
  abbrev pub MayCallAtNextPair : (F → I → J → Type 0) → S → R → F → Type 0
  MayCallAtNextPair pre entries others f = can_next entries × other_can_next others
      × ((after : S) → next_gives entries None after → ⊥) × ((then : R) → other_gives others None then → ⊥)
      × ((item : I) (after : S) (other : J) (then : R) → next_gives entries (Some item) after
      → other_gives others (Some other) then → pre f item other)

  -- a call of f at what they gave
  abbrev pub CallAtNextPair : {Y : Type 0} → (F → I → J → Y → F → Type 0) → S → R → F → Y → S → R → F → Type 0
  CallAtNextPair step entries others f y after then g = ((item : I) × (other : J)
      × next_gives entries (Some item) after × other_gives others (Some other) then × step f item other y g)
      × can_next after × other_can_next then
