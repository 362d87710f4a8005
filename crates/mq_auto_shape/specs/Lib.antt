pub mod Conditions
pub mod Edges
pub mod Found
pub mod Indexed
pub mod LaneRuns
pub mod Numbers
pub mod Outcomes
pub mod Walk
