pub mod ChainLemmas
pub mod DealLemmas
pub mod LevelLemmas
pub mod NumberLemmas
pub mod OutcomeLemmas
pub mod PlaceLemmas
pub mod RoundLemmas
pub mod RunLemmas
