pub mod TermRowLemmas
pub mod KeyLemmas
