pub mod Cursor
pub mod Ends
pub mod Gaining
pub mod Taking
