pub mod Merged
pub mod Orders
pub mod Values
