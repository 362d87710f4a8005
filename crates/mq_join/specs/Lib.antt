pub mod Chosen
pub mod Deciding
pub mod Indexed
pub mod JoinKeys
pub mod Kept
pub mod Passing
pub mod Rows
pub mod Walk
