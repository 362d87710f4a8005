pub mod Cuts
pub mod Explained
pub mod FoundLaws
pub mod KeptStretches
pub mod Models
pub mod Printing
pub mod Queries
pub mod Stretches
