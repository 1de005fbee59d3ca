pub mod Names
pub mod RunningSums
pub mod SameSegments
pub mod SegmentEnds
pub mod Totals
pub mod Unbroken
