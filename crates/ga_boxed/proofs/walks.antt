-- What the walks of the memory's cells share: the calls of `Cells`, `allocate` and `deallocate`, which alone read and
-- write through a pointer. `ga_views` says in its `walks` what a walk is and how the next is written.
--     WalkParts                          values of one pointer and of no bytes, an item in memory, how a walk ends
--     CellsWalk                          how `self` is opened and closed
--     TakeWalk, CellsSliceWalk           the code of both takes, and of both slices
--     EndLemmas, BlockRoom               the slot at either end of the items; a block without items
--     CellsSharing, Crosses              when a `&` to cells is made; when cells may go to other threads
--     Names                              the names that these walks cite
-- A function's own walk takes what it cites of all of these from here.
pub mod BlockRoom
pub mod CellsSharing
pub mod CellsSliceWalk
pub mod CellsWalk
pub mod Crosses
pub mod EndLemmas
pub mod Names
pub mod TakeWalk
pub mod WalkParts
pub use BlockRoom.*
pub use CellsSliceWalk.{showing, slices}
pub use CellsWalk.*
pub use EndLemmas.*
pub use Names.*
pub use TakeWalk.{Giving, Placing, Taken, meets_taking}
pub use WalkParts.*
