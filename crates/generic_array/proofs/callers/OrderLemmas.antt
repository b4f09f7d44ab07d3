-- The set `falling`, for crates that name this library alone.
pub use Rattle.ga_core.proofs.callers.OrderLemmas.{falling}
