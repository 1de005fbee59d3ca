pub mod FaultLines
pub mod Warnings
pub use Rattle.span_event.specs.{Fault.number_of, declared.fault.Fault.TheVariants.{NotOpened}}
pub use Rattle.span_journal.specs.{Refusal.code_of, declared.refusal.Cause.Cause}
pub use Rattle.span_collect.specs.{FaultLines.end_lines, declared.{files.Input.Input, refusals.warnings.Warning.Warning, runs.RunEnd.RunEnd}}
pub use Rattle.span_report.specs.Lines.{line_of}
unfoldable pub use Rattle.span_report.specs.Lines.{json_text_of}
unfoldable pub use Rattle.span_collect.specs.{FaultLines.fault_line, Words.numbered}
