-- What is got of a view's items at an index.
use Rattle.std.proofs.Common.{arith, length, sym}
use Rattle.std.proofs.lemmas.Option.{slice_get_past, slice_get_read}
use Rattle.std.specs.Borrow.{Bor}
use Rattle.std.specs.Option.{option_copied}
use Rattle.std.specs.Prelude.{◌≡◌, ℕ, ◌<◌, ◌≤◌, ◌↔◌, IsSome, List, None, Option, Some, refl, slice_get, slice_index_or}
use Rattle.std.specs.Slice.{IsItemAt}

-- the n items of a view, where their number stands under the name m
module _ {X : Type 0} (items : List X) (n i m : ℕ) (full : length items ≡ n) (as_long : m ≡ n) where
  -- below the length, which stands under the name m, it is there
  pub got_some : (x : X) → i < m → x ≡ slice_index_or items i x
      → (IsSome (Some x) ↔ (i < n)) × (Some x ≡ slice_get items i)
  got_some x below here =
      let within : i < n = omega arith in
      ((λ is. within, λ is. refl), sym (slice_get_read items n i x (sym full) within here))

  -- from the length on, none is
  pub got_none : m ≤ i → (IsSome {T = X} None ↔ (i < n)) × (None ≡ slice_get items i)
  got_none past = ((λ is. absurd cc, λ below. absurd (omega arith)), sym (slice_get_past items i (omega arith)))

-- the same of a slice's `get`, where the slice holds the items
pub got : {X : Type 0} (items lent : List X) (n i : ℕ) (reply : Option (Bor X)) → IsItemAt lent i reply → lent ≡ items
    → length lent ≡ n → (IsSome reply ↔ (i < n)) × (option_copied reply ≡ slice_get items i)
got items lent n i None gives same long =
    got_none items n i (length lent) (rw (sym same) long) long gives.3
got items lent n i (Some x) gives same long =
    got_some items n i (length lent) (rw (sym same) long) long x.now gives.3.0 (rw (sym same) gives.1)
