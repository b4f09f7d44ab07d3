-- What iterators over borrowed items give.
use Rattle.std.specs.Iterator.Adapters.{IterMutYieldsInOrder, IterMutYieldsInReverse, IterYieldsInOrder}
use Rattle.std.specs.Iterator.Adapters.{IterYieldsInReverse}
use Rattle.std.specs.Prelude.{◌≡◌, ℕ, ◌^◌, ◌<◌, List, length}
use Rattle.std.specs.Slice.Iter.{iter_mut_rest, iter_rest}
use Rattle.std.specs.declared.slice.Iter.{Iter}
use Rattle.std.specs.declared.slice.IterMut.{IterMut}

module _ {T : Type 0} (items : List T) (n : ℕ) where
  -- these n items, from both ends
  abbrev pub IteratesOver : Iter T → Type 0
  IteratesOver iterator = (iter_rest iterator ≡ items) × (length (iter_rest iterator) ≡ n)
      × (length (iter_rest iterator) < 2 ^ 64) × IterYieldsInOrder T × IterYieldsInReverse T

  -- the same for writing
  abbrev pub IteratesMutOver : IterMut T → Type 0
  IteratesMutOver iterator = (iter_mut_rest iterator ≡ items) × (length (iter_mut_rest iterator) ≡ n)
      × (length (iter_mut_rest iterator) < 2 ^ 64) × IterMutYieldsInOrder T × IterMutYieldsInReverse T
