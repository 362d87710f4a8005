pub mod ListLemmas
pub mod RuleLemmas
pub mod ModelLemmas
pub mod HeadLemmas
pub mod QueryLemmas
pub mod PlainLemmas
pub mod SourceLemmas
pub mod OrderLemmas
