pub mod Depth
pub mod Results
pub mod Pieces
pub mod Parsing
