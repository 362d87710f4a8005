pub mod Blocks
pub mod Catalogs
pub mod KeptViews
pub mod Refreshed
pub mod Scenarios
pub mod Sessions
