pub mod ColumnLemmas
pub mod ConditionLemmas
pub mod FollowLemmas
pub mod FollowWalkLemmas
pub mod LineLemmas
