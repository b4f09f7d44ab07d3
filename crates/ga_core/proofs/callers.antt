-- Lemmas for callers, which no proof of this crate cites.
pub mod BitLemmas
pub mod DigitLemmas
pub mod EditLemmas
pub mod Everyday
pub mod JoinLemmas
pub mod KeyLemmas
pub mod NestedLemmas
pub mod OrderLemmas
pub mod PlaceLemmas
pub mod QueueLemmas
pub mod RingLemmas
pub mod SearchLemmas
pub mod SignedLemmas
pub mod TableLemmas
pub mod TakenLemmas
pub mod WordLemmas
