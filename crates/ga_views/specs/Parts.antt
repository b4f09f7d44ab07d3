-- A part of a list written over, and a slice cut in two for writing.
use Rattle.std.specs.Borrow.{Array, Fml, MutBor, RattleType, follows_both}
use Rattle.std.specs.List.{refill}
use Rattle.std.specs.Prelude.{ℕ, ◌+◌, ◌++◌, List, drop, take}

-- the items, with `part` written over the `len` from place `from` on
abbrev pub part_set : {X : Type 0} → ℕ → ℕ → List X → List X → List X
part_set from len items part = take from items ++ (refill len (take len (drop from items)) part
    ++ drop (from + len) items)

-- once both borrows end, the slice is the items of the first and then those of the second
abbrev pub LendsHalves : (T : RattleType) (slice first second : MutBor (List T.Denot)) → Fml
LendsHalves T slice first second = follows_both (Array T 0) (Array T 0)
    (Array T 0) slice.ghost_name first.ghost_name second.ghost_name ◌++◌
