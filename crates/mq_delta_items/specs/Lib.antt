pub mod ColumnLaws
pub mod Columns
pub mod Following
pub mod LineLaws
pub mod Lines
pub mod Lining
pub mod TouchLaws
pub mod Touching
