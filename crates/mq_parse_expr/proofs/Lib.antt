pub mod ArmLemmas
pub mod FrontLemmas
pub mod LevelLemmas
pub mod LoneLemmas
pub mod PrimLemmas
