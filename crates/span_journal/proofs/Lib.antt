pub mod Later
pub mod LegalJournals
pub mod LegalSpans
pub mod Sealable
pub mod Selected
pub mod SeriesOfProcess
pub mod Sorted
pub mod Topics
