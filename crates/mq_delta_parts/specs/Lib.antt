pub mod ChangeLaws
pub mod Changed
pub mod Edits
pub mod Groups
pub mod Spans
pub mod Woven
