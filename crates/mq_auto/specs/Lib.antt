pub mod Findings
pub mod Mapped
pub mod Meaning
pub mod Walks
