pub mod AffectedVersionLaws
pub mod HistoryLaws
pub mod KeptLaws
pub mod RunLaws
pub mod WorkedVersions
