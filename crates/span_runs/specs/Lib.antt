pub mod Apart
pub mod Folders
pub mod Gathering
pub mod Inputs
pub mod Jobs
pub mod Listing
pub mod Names
pub mod Runs
pub mod Said
pub mod Source
pub mod Stops
pub use Rattle.span_event.specs.{Fault.number_of, Text.Bytes, declared.fault.Fault.TheVariants.FileCount}
pub use Rattle.span_read.specs.{Document.doc, declared.format.Format.Format}
pub use Rattle.span_journal.specs.{Refusal.code_of, declared.{entry.Entry.Entry, refusal.Cause.Cause}}
pub use Rattle.span_collect.specs.{Account.EndsAs, FaultLines.{end_line, end_lines}, Refusals.Warnings.warnings_of, InTurn.{AreSeparate, ends_from, journal_in_turn}, Run.{IsNotCollected, end_by, run_code, status_of, unread_of}, Seals.SealedAccount, declared.{files.{FileEnd.FileEnd, Input.Input}, refusals.warnings.Warning.Warning, queries.Asked.Asked, runs.RunError.RunError, sealing.Sealing.Sealing, settings.Settings.Settings}}
unfoldable pub use Rattle.span_collect.specs.FaultLines.{fault_line}
pub use Rattle.span_faults.specs.FaultLines.{IsHint, run_line, unread_line}
pub use Rattle.span_stack_sums.specs.Stacks.{IsStackSum, JoinsSums, TakesJournal}
pub use Rattle.span_table.specs.{Adding.{IsSumOf, SummedTable, TakesRuns}, Columns.{Run, run_of}, Laws.{AreAlikeRuns, AreAllAlike}, Tables.{Schema, SpanTable, table_of}, declared.table_sum.SumFault.{SumFault, TheVariants.TooMany}}
