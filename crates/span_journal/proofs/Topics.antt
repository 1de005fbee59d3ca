pub mod Answers
pub mod KeyRows
pub mod Keys
pub mod Positions
pub mod Rows
pub mod Taken
pub mod Threads
