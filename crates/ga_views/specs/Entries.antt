-- Calls of a closure at entries that stand for values: an item by value stands for itself, a reference for the item
-- behind it.
use Rattle.std.specs.Prelude.{◌≡◌}

module _ {I T F : Type 0} (entry : I → T) where
  -- f may be called at each entry that stands for x
  abbrev pub MayCallAt : (F → I → Type 0) → F → T → Type 0
  MayCallAt pre f x = (item : I) → entry item ≡ x → pre f item

  -- a call of f at an entry that stands for x
  abbrev pub CallAt : {Y : Type 0} → (F → I → Y → F → Type 0) → F → T → Y → F → Type 0
  CallAt step f x y g = (item : I) × (entry item ≡ x) × step f item y g

  -- a call of f with a at an entry that stands for x
  abbrev pub FoldAt : {A B : Type 0} → (F → A → I → B → F → Type 0) → F → A → T → B → F → Type 0
  FoldAt step f a x b g = (item : I) × (entry item ≡ x) × step f a item b g

module _ {I J T B F : Type 0} (entry : I → T) (other : J → B) where
  -- a call of f at two entries that stand for the pair
  abbrev pub CallAtPair : {Y : Type 0} → (F → I → J → Y → F → Type 0) → F → T × B → Y → F → Type 0
  CallAtPair step f p y g = (left : I) × (right : J) × (entry left ≡ p.0) × (other right ≡ p.1) × step f left right y g

module _ {I T F Y : Type 0} (entry : I → T) where
  -- each call of f returns h of what its entry stands for, and leaves f as it is
  abbrev pub ActsOnEntry : (F → I → Y → F → Type 0) → F → (T → Y) → Type 0
  ActsOnEntry step f h = (item : I) (y : Y) (g : F) → step f item y g → (g ≡ f) × (y ≡ h (entry item))

module _ {I T F A B : Type 0} (entry : I → T) where
  -- each call of f with a at an entry returns h of a and of what the entry stands for, and leaves f as it is
  abbrev pub ActsInFold : (F → A → I → B → F → Type 0) → F → (A → T → B) → Type 0
  ActsInFold step f h = (a : A) (item : I) (b : B) (g : F) → step f a item b g → (g ≡ f) × (b ≡ h a (entry item))

module _ {I J T B F Y : Type 0} (entry : I → T) (other : J → B) where
  -- each call of f at two entries returns h of the pair that they stand for, and leaves f as it is
  abbrev pub ActsOnEntries : (F → I → J → Y → F → Type 0) → F → (T × B → Y) → Type 0
  ActsOnEntries step f h = (left : I) (right : J) (y : Y) (g : F) → step f left right y g
      → (g ≡ f) × (y ≡ h (entry left, other right))
