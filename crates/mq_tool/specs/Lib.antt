pub mod Comparisons
pub mod Loads
pub mod Needs
pub mod Places
pub mod Script
pub mod Statements
pub mod Steps
pub mod Summary
