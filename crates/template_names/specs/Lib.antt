pub mod Marks
pub mod Merged
pub mod Writing
