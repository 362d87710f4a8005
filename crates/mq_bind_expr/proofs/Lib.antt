mod AgainLemmas
mod CaseWalkLemmas
mod DimensionLemmas
mod FormLemmas
mod OperandLemmas
mod PresenceLemmas
mod TestLemmas
