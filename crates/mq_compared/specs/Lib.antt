pub mod Applied
pub mod InPlace
pub mod Kept
