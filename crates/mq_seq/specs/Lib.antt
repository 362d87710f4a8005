pub mod Known
pub mod Marks
pub mod Outcomes
pub mod Shown
pub mod Steps
pub mod Tracks
