pub mod ArrayLemmas
