-- What the parts of a block own and share, at items of the row R.
use Rattle.std.specs.Mem.{type_size}
use Rattle.std.specs.Prelude.{List, length, ℕ, ◌*◌, ◌+◌, ◌^◌}
use Rattle.std.specs.Vec.Ownership.{has_block, owns_if}
use base.Fml.{Fml, Lft, ffalse, flt, froom, fsep}
use denote.Memory.{lone, mem}
use denote.RattleType.{RattleType}
use denote.RawPtr.{Ptr, block_ptr, null_ptr}
use denote.Sharing.{beside, said}
use denote.Slice.{elements_shared}
use mir.Raw.{raw}
use mir.Syntax.{Ty, ty_array}
use types.SemTy.{cells}

module _ (R : RattleType) where
  -- n places take fewer than 2 ^ 63 bytes
  abbrev pub fit : ℕ → Fml
  fit n = flt (n * type_size R) (2 ^ 63)

  -- n places that hold nothing, o bytes into the block b
  abbrev pub empty : ℕ → ℕ → ℕ → Fml
  empty b o n = froom (raw (ty_array (lone R.mir) n)) b o

  -- the items xs, with m places that hold nothing before them, and room for n behind them
  abbrev pub cells_own : Ptr → ℕ → List R.Denot → ℕ → Fml
  cells_own (block_ptr b o) m xs n =
      fsep (fit (m + length xs + n)) (fsep (cells (mem R) xs b (m * type_size R + o))
      (fsep (empty b o m) (empty b ((m + length xs) * type_size R + o) n)))
  cells_own null_ptr m xs n = ffalse

  -- a `&` reaches the items alone
  abbrev pub cells_lent : Ptr → ℕ → List R.Denot → ℕ → Lft → Fml
  cells_lent (block_ptr b o) m xs n = beside (said (fit (m + length xs + n)))
      (elements_shared R xs b (m * type_size R + o))
  cells_lent null_ptr m xs n = said ffalse

  -- the allocator's token for a block of n places, where there is a block
  abbrev pub deed_owns : (Ty → Ptr → Fml) → Ptr → ℕ → Fml
  deed_owns token p n = owns_if (has_block n) (token (raw (ty_array (lone R.mir) n)) p)
