pub mod Repeats
pub mod Runs
