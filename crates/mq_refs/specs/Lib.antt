pub mod LookLists
pub mod LookParts
pub mod Orders
pub mod Sightings
pub mod Sites
pub mod SlotsOver
