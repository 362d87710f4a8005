pub mod Draws
pub mod Kept
pub mod Pieces
pub mod Script
pub mod Summary
pub mod Notes
