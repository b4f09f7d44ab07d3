pub mod BufferLemmas
pub mod HkdfLemmas
pub mod PaddingLemmas
pub mod PieceLemmas
pub mod SameBytes
