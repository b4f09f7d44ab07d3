mod CbcLemmas
mod ChaCha20Lemmas
pub mod KeystreamLemmas
mod UnpadLemmas
mod XteaLemmas
