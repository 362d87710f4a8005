pub mod Fields
pub mod Left
pub mod Loading
