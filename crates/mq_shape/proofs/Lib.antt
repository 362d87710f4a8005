pub mod KeyLemmas
pub mod RunLemmas
