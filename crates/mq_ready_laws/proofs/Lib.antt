pub mod LeftLemmas
pub mod ModelLemmas
pub mod QueryLemmas
pub mod RuleLemmas
pub mod StatementLemmas
pub mod StepLemmas
