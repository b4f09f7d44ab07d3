pub mod DecimalLemmas
pub mod SumLemmas
pub mod TableLemmas
pub mod TextLemmas
