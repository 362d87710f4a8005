pub mod Chains
pub mod Levels
pub mod Numbers
pub mod Places
pub mod Rounds
pub mod Runs
pub mod Waiting
