pub mod AnyOrder
pub mod Compared
pub mod Itself
pub mod Permuted
pub mod RepeatedKeys
pub mod Sorts
pub mod SpreadOrder
pub mod Turned
