-- What the cells end as, where their items are borrowed for writing.
use Rattle.ga_boxed.specs.contracts.live_block.cells.Cells.{the_row}
use Rattle.ga_boxed.specs.declared.live_block.cells.Cells.{Cells}
use Rattle.std.specs.Borrow.{Array, Fml, Lends, MutBor, RattleType}
use Rattle.std.specs.List.{refill}
use Rattle.std.specs.Prelude.{List, length}

-- the cells with these items in the place of theirs
abbrev pub with_items : {X : Type 0} → Cells X → List X → Cells X
with_items c xs = record { mark = c.mark; at = c.at; passed = c.passed; items = xs; room = c.room }

-- once the borrow r ends, the items are those that r shows last, and nothing else changes
abbrev pub lends_items : (R : RattleType) → MutBor (Cells R.Denot) → MutBor (List R.Denot) → Fml
lends_items R c r = Lends (the_row R) (Array R 0) c r
    (λ ws. with_items c.now (refill (length c.now.items) c.now.items ws))
