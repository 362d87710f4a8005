pub mod GrowthLemmas
pub mod LawLemmas
pub mod SideLemmas
pub mod StepLemmas
