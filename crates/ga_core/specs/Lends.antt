-- What an array, or an iterator by value, ends as, where a `&mut` to its items is returned. Such a clause reads of the
-- lender's type only its values, and these are lists of items, as a slice's are. So `Array T 0` stands for it, and no
-- word here names a length or a store.
use Rattle.std.specs.Borrow.{Array, Fml, Lends, MutBor, RattleType, follows, follows_both}
use Rattle.std.specs.List.{refill}
use Rattle.std.specs.Prelude.{◌++◌, ℕ, List, length, slice_set}
use Rattle.std.specs.Slice.Iter.{iter_mut_name}
use Rattle.std.specs.declared.slice.IterMut.{IterMut}

module _ (T : RattleType) (array : MutBor (List T.Denot)) where
  -- the array with these items written over its own, as many as it has
  abbrev pub array_with : List T.Denot → List T.Denot
  array_with written = refill (length array.now) array.now written

  -- once the borrow r ends, the items are those that r shows last
  abbrev pub LendsItems : MutBor (List T.Denot) → Fml
  LendsItems r = Lends (Array T 0) (Array T 0) array r array_with

  -- the same where the items went to an `iter_mut`
  abbrev pub LendsIter : IterMut T.Denot → Fml
  LendsIter items = follows (Array T 0) (Array T 0) array.ghost_name (iter_mut_name items) array_with

  -- once the borrow r ends, place i has the last value written through r, and the others are as they were
  abbrev pub LendsItem : ℕ → MutBor T.Denot → Fml
  LendsItem i r = Lends (Array T 0) T array r (slice_set array.now i)

  -- once both borrows end, the items are those that the first shows last, and then those of the second
  abbrev pub LendsBothParts : (first second : MutBor (List T.Denot)) → Fml
  LendsBothParts first second = follows_both (Array T 0) (Array T 0) (Array T 0)
      array.ghost_name first.ghost_name second.ghost_name (λ left right. array_with (left ++ right))
