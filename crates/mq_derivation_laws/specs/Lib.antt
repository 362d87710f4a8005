pub mod DerivationLaws
pub mod SourceLaws
