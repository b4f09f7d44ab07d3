mod MadeLemmas
mod NextCalls
mod TupleLemmas
pub mod CopyLemmas
pub mod EntryActs
pub mod FillLemmas
pub mod JoinedRuns
pub mod LeftLemmas
pub mod MoveLemmas
pub mod PairLemmas
pub mod RunLemmas
pub mod SlotLemmas
pub mod TwoEndedLemmas
pub mod ZipLemmas
pub mod callers
pub mod walks
pub use Rattle.arrayvec.proofs.IterLemmas
pub use Rattle.ga_views.proofs.ActsLemmas
pub use Rattle.ga_views.proofs.CallLemmas
pub use Rattle.ga_views.proofs.CutLemmas
pub use Rattle.ga_views.proofs.HexLemmas
pub use Rattle.ga_views.proofs.RowLemmas
pub use Rattle.ga_views.proofs.RowSetLemmas
pub use Rattle.ga_core.proofs.callers.BitLemmas
pub use Rattle.ga_core.proofs.callers.DigitLemmas
pub use Rattle.ga_core.proofs.callers.Everyday
pub use Rattle.ga_core.proofs.callers.JoinLemmas
pub use Rattle.ga_core.proofs.callers.KeyLemmas
pub use Rattle.ga_core.proofs.callers.NestedLemmas
pub use Rattle.ga_core.proofs.callers.OrderLemmas
pub use Rattle.ga_core.proofs.callers.PlaceLemmas
pub use Rattle.ga_core.proofs.callers.RingLemmas
pub use Rattle.ga_core.proofs.callers.SignedLemmas
pub use Rattle.ga_core.proofs.callers.WordLemmas
