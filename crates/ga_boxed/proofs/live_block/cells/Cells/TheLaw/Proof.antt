-- A `&` to the cells reaches each item. Assumes `Logic`.
use Rattle.ga_boxed.proofs.walks.Names.{Incl-trans, meet_⊑_left, Laws, copy_shared, RattleType, RawPtr, field_copy}
use Rattle.ga_boxed.proofs.walks.Names.{of_Lends, [], ◌++◌}
use Rattle.std.specs.contracts.marker.PhantomData as marker
use Rattle.ga_boxed.proofs.walks.CellsSharing.{Lends-cells, cells_lent_laws}
use Rattle.ga_boxed.proofs.live_block.cells.Cells.TheLaw.Statement.{statement}
use Rattle.ga_boxed.specs.contracts.live_block.cells.Cells as C

pub shares : (R : RattleType) (L : Laws R) → statement R L
shares R L = of_Lends (C.struct R) (C.the_codes R.Denot R.coded (marker.the_row RawPtr).coded) (C.the_heap R)
    (C.the_lent R)
    (λ d p. cells_lent_laws R L.shr_laws d.at d.passed d.items d.room)
    (copy_shared (marker.the_field RawPtr) (field_copy (marker.the_type RawPtr) tt), tt)
    (λ M 𝓤 𝓛 d p. Lends-cells 𝓛 (C.the_row R).lives R L
    (Incl-trans (meet_⊑_left (R.lives ++ []) _) (meet_⊑_left R.lives [])) d.at d.passed d.items d.room)
