-- The set `digits`, for crates that name this library alone.
pub use Rattle.ga_core.proofs.callers.DigitLemmas.{digits, multiplied_more, taken_more}
