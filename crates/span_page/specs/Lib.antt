pub mod Bounds
pub mod Coded
pub mod Data
pub mod Graph
pub mod Laws
pub mod Page
pub mod Runs
pub mod Safe
pub use Rattle.span_event.specs.{Text.{Bytes, same_text, text_cmp}, declared.{args.ArgValue.TheVariants.Words, thread.Thread.Thread, unit.Unit.Unit}}
pub use Rattle.span_journal.specs.{ByProcess.{ProcessRows, ThreadRows, rows_by_process}, Topics.AreAlike, declared.entry.Entry.Entry}
unfoldable pub use Rattle.span_report.specs.Lines.{json_text_of}
pub use Rattle.span_report.specs.{Report.report_of, Stacks.{Bounds.{frame_count, most_names}, Folded.{thread_frame_count, thread_stacks}, Framed.{AreAscending, Framed, folded_after, folded_if, stack_after}, Laws.HaveSameStacks, Ticks.{Folded, Stack, folded_stacks, stack_order}}, declared.stacks.{fault.StacksFault.TheVariants.TooLarge, label.SpanColumn.SpanColumn}}
pub use Rattle.span_collect.specs.{FaultLines.end_lines, Refusals.Text.refusals_of, declared.files.{FileEnd.FileEnd, Input.Input}}
pub use Rattle.span_table.specs.{Columns.Value, Tables.{KeyedSums, rows_of}, declared.table.Row.Row}
pub use Rattle.span_stack_sums.specs.{Stacks.{Stands, SummedStacks}, Text.labels_in}
