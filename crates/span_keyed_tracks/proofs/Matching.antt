pub mod Closed
pub mod Mapped
pub mod Open
