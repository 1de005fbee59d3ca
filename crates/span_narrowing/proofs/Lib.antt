mod Adding
pub mod Plain
mod Shown
pub mod Suited
