pub mod Forms
pub mod Fronts
pub mod NameLemmas
pub mod Names
pub mod Quotes
pub mod Reading
pub mod StepLemmas
pub mod TokenLemmas
