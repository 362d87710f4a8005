pub mod Calls
pub mod Machine
pub mod MachineLaws
pub mod Rule
pub mod ViewLaws
pub mod Views
