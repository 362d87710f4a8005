pub mod Columns
pub mod Members
pub mod Numbering
