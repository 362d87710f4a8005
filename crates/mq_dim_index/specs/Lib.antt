pub mod Found
pub mod Maps
pub mod PlaceRuns
pub mod Places
pub mod Runs
pub mod Spans
