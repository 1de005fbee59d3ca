pub mod Padding
pub mod SameReports
pub mod StackLemmas
pub mod Taking
