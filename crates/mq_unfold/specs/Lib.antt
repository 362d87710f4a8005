pub mod FixedLefts
pub mod LeftSides
pub mod Rows
pub mod RuleLaws
pub mod SingleLefts
pub mod Spreads
pub mod Steps
