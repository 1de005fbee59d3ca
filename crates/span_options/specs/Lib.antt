pub mod Command
pub mod Given
pub mod Laws
pub mod Parsing
