pub mod Gathered
pub mod Inverts
pub mod Moves
pub mod Sets
pub mod Unions
pub mod Verdicts
