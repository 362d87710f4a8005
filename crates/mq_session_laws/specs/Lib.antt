pub mod BlockLaws
pub mod ScenarioLaws
