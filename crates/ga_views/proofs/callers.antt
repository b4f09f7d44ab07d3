-- Lemmas for callers, which no proof of this crate cites.
pub mod RowSetLemmas
