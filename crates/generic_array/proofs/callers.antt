-- Lemmas for callers, which no proof of this crate cites.
pub mod BitLemmas
pub mod CountLemmas
pub mod DigitLemmas
pub mod Everyday
pub mod OrderLemmas
pub mod WordLemmas
