pub mod Calls
pub mod Causes
pub mod FileList
pub mod FileNames
pub mod Files
pub mod InMemory
pub mod Progress
pub mod ProgressLemmas
