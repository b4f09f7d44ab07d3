mod EntryLemmas
pub mod KeyTableLemmas
pub mod MatrixLemmas
pub mod SearchLemmas
pub mod UdpLemmas
