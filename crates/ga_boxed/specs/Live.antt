-- What a contract sees of a block.
use Rattle.std.specs.Coded.{Coded, code_by, coded_list, coded_ℕ, coded×}
use Rattle.std.specs.Prelude.{List, refl, ℕ}

-- the items that the block holds, and the number of items that can be put behind them
pub record Live (X : Type 0) : Type 0 where
  pub items : List X
  pub room : ℕ

module _ {X : Type 0} where
  -- the block with these items and so much room
  abbrev pub live : List X → ℕ → Live X
  live xs n = record { items = xs; room = n }

  -- a code of blocks, from one of items
  abbrev pub live_code : Coded X → Coded (Live X)
  live_code c = code_by (List X × ℕ) (coded× (coded_list c) coded_ℕ) (λ b. (b.items, b.room)) (λ p. live p.0 p.1)
      (λ _. refl)
