mod Examples
mod Utf8
mod WritingLemmas
mod MarkLemmas
mod Taking
