pub mod BlockLemmas
pub mod ScenarioLemmas
