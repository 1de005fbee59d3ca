pub mod Appending
pub mod Coding
pub mod GraphRows
mod Graphs
pub mod Joined
pub mod LongTexts
pub mod RunsSoFar
pub mod SafePieces
pub mod SafeTexts
pub mod SamePages
