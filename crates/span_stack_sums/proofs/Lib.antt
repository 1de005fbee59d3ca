pub mod Deep
pub mod KeptRows
pub mod Labels
pub mod StackSums
pub mod Taking
