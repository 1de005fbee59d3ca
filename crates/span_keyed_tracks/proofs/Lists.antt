pub mod Filters
pub mod Last
