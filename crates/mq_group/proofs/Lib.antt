pub mod GroupLemmas
pub mod ItemLemmas
pub mod KeyLemmas
pub mod TakingLemmas
