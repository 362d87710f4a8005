pub mod CountLemmas
pub mod FixedLemmas
pub mod ListLemmas
pub mod OrderLemmas
pub mod RowLemmas
pub mod StepLemmas
pub mod WidthLemmas
