-- A key stream at a place.
use Rattle.std.specs.Prelude.{ℕ}

-- the cipher, and how many bytes of its key stream lie before the place
pub record Place (C : Type 0) : Type 0 where
  pub cipher : C
  pub position : ℕ
