pub mod AnswerLemmas
pub mod BlockLemmas
pub mod walks
