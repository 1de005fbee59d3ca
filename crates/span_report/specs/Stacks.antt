-- The stacks of threads, each with how many ticks have it, and all of them as a text.
pub mod Bounds
pub mod Descent
pub mod Folded
pub mod Framed
pub mod Frames
pub mod Labelled
pub mod Labels
pub mod Laws
pub mod Pending
pub mod Ticks
