-- What a block ends as, where its items are borrowed for writing.
use Rattle.ga_boxed.specs.Live.{Live, live}
use Rattle.ga_boxed.specs.contracts.live_block.LiveBlock.{the_row}
use Rattle.std.specs.Borrow.{Array, Fml, Lends, MutBor, RattleType}
use Rattle.std.specs.List.{refill}
use Rattle.std.specs.Prelude.{List, length}

module _ (R : RattleType) (block : MutBor (Live R.Denot)) where
  -- once the borrow r ends, the items are those that r shows last, and the room is what it was
  abbrev pub LendsLive : MutBor (List R.Denot) → Fml
  LendsLive r = Lends (the_row R) (Array R 0) block r
      (λ ws. live (refill (length block.now.items) block.now.items ws) block.now.room)
