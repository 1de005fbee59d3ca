pub mod Closing
pub mod Mapped
pub mod Renumbering
pub mod Room
pub mod Sealing
pub mod Sound
pub mod Spans
