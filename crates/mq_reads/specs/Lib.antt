pub mod Aggregation
