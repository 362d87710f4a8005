pub mod CrossLemmas
mod FaultLemmas
mod JudgeLemmas
mod LentLemmas
mod ListedLemmas
mod MappingLemmas
mod NodeLemmas
mod RowLemmas
mod SettledLemmas
mod WalkLemmas
