pub mod Counted
pub mod Most
pub mod NoWarnings
pub mod Refused
pub mod Tallying
