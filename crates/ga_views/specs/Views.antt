-- What read-only views show, for crates above, from which their fields are hidden.
use Rattle.ga_views.specs.declared.array_ref.GenericArrayRef.{GenericArrayRef}
use Rattle.ga_views.specs.declared.chunks_ref.ChunksRef.{ChunksRef}
use Rattle.ga_views.specs.declared.length.Unsigned as unsigned
use Rattle.std.specs.Prelude.{◌≡◌, List, length}

module _ {T N : Type 0} {n : unsigned.Ghosts N} where
  -- the items of a view
  abbrev pub items_of_view : GenericArrayRef T N n → List T
  items_of_view view = view.slice.now

  -- they are as many as its length says
  pub length-items_of_view : (view : GenericArrayRef T N n) → length (items_of_view view) ≡ n.USIZE
  length-items_of_view view = view.full

  -- the items of all rows of a view of rows
  abbrev pub items_of_chunks : ChunksRef T N n → List T
  items_of_chunks chunks = chunks.slice.now
