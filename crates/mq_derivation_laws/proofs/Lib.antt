pub mod AcceptedLemmas
pub mod GivenLemmas
pub mod NameLemmas
pub mod RoundLemmas
pub mod RuledLemmas
pub mod SlotLemmas
pub mod SourceLemmas
pub mod StepLemmas
