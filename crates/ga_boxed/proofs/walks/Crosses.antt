-- The parts of a block may cross threads as its items and its allocator may. Assumes nothing.
use Rattle.ga_boxed.proofs.walks.Names
use Names.{[], block_ptr, Bool, cells, cells_lent, cells_own, elements_shared, Exit, exits_of, false, fields, Fml}
use Names.{full_share, Ghosts, has_block, hidden, leaves, List, mem, null_ptr, owns_if, Ptr, RattleType, shape, to}
use Names.{true, type_size, unchanged, under, ℕ, ◌*◌, ◌+◌, ◌∷◌}
use Rattle.ga_boxed.specs.contracts.live_block.cells.Cells as Cells
use Rattle.ga_boxed.specs.contracts.live_block.cells.Deed as Deed
use base.Shift.{Keyless}
use denote.Param.Send.{AllSend, Common, Frees, IsSend, IsSync, Quiet, owning_send, part_keyless, sendable, struct_send}
use denote.Param.Send.{struct_sync}

quiet : {D X : Type 0} (to : D → X) (e : Exit X) → Quiet e → Quiet (hidden (under to e))
quiet to unchanged q = λ x w. tt
quiet to (leaves L l S s r₀) q = λ d. q (to d)

if_so : (y : Bool) (F : Fml) → Keyless F → Keyless (owns_if y F)
if_so true F k = k
if_so false F k = tt

module _ (R : RattleType) where
  items-Keyless : IsSend R → (xs : List R.Denot) (b o : ℕ) → Keyless (cells (mem R) xs b o)
  items-Keyless s [] b o = tt
  items-Keyless s (x ∷ xs) b o = (part_keyless R s full_share x b o, items-Keyless s xs b (o + (mem R).size))

  items_lent-Common : IsSync R → (xs : List R.Denot) (b o : ℕ) → Common (elements_shared R xs b o)
  items_lent-Common y [] b o κ = tt
  items_lent-Common y (x ∷ xs) b o κ = (y.shared x b o κ, items_lent-Common y xs b (o + (mem R).size) κ)

  cells-Keyless : IsSend R → (p : Ptr) (m : ℕ) (xs : List R.Denot) (n : ℕ) → Keyless (cells_own R p m xs n)
  cells-Keyless s (block_ptr b o) m xs n = (tt, (items-Keyless s xs b (m * type_size R + o), (tt, tt)))
  cells-Keyless s null_ptr m xs n = tt

  cells_lent-Common : IsSync R → (p : Ptr) (m : ℕ) (xs : List R.Denot) (n : ℕ) → Common (cells_lent R p m xs n)
  cells_lent-Common y (block_ptr b o) m xs n κ = (tt, items_lent-Common y xs b (m * type_size R + o) κ)
  cells_lent-Common y null_ptr m xs n κ = tt

  pub Cells-send : IsSend R → IsSend (Cells.the_row R)
  Cells-send s =
      let O = Cells.the_type R in let all : AllSend (fields O) = (search sendable, tt) in
      owning_send O all (λ d. cells-Keyless s d.at d.passed d.items d.room)
      (λ k. quiet (to O) (exits_of k (fields O)) ((struct_send (shape O) all).leaving k))

  pub Cells-sync : IsSync R → IsSync (Cells.the_row R)
  Cells-sync y =
      let O = Cells.the_type R in
      record {
        shared = λ d b o κ. (
          (struct_sync (shape O) (search sendable, tt)).shared (to O d) b o κ,
          cells_lent-Common y d.at d.passed d.items d.room κ,
        );
      }

  module _ (A : RattleType) (g : Ghosts A.Denot) where
    -- that the allocator may be sent is asked of each impl, and not needed here
    pub Deed-send : IsSend A → Frees g g.dealloc_token → IsSend (Deed.the_row R A g)
    Deed-send _ f =
        let O = Deed.the_type R A g in let all : AllSend (fields O) = (search sendable, tt) in
        owning_send O all (λ d. if_so (has_block d.len) _ (f.frees d.alloc _ d.at))
        (λ k. quiet (to O) (exits_of k (fields O)) ((struct_send (shape O) all).leaving k))

    pub Deed-sync : IsSync (Deed.the_row R A g)
    Deed-sync = let O = Deed.the_type R A g in record {
      shared =
          λ d b o κ. ((struct_sync (shape O) (search sendable, tt)).shared (to O d) b o κ, tt);
    }
