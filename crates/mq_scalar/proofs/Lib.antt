pub mod CaseLemmas
pub mod ExitLemmas
pub mod LoopLemmas
pub mod OutcomeLemmas
