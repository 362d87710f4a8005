pub mod AsciiLemmas
pub mod DayLemmas
pub mod FieldLemmas
pub mod FitLemmas
pub mod LeftLemmas
pub mod MarkLemmas
pub mod ReaderLemmas
pub mod WalkLemmas
