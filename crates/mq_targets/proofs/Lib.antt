pub mod AmongLemmas
pub mod OrderLemmas
pub mod PlaceLemmas
