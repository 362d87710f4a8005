pub mod Closing
pub mod Found
pub mod Held
pub mod Nodes
pub mod Ordered
pub mod Rules
pub mod Telling
pub mod Told
