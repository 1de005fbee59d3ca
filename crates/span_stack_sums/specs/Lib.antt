pub mod Kept
pub mod Stacks
pub mod Text
pub use Rattle.span_event.specs.{Text.Bytes, declared.{args.ArgValue.TheVariants.Words, thread.Thread.Thread}}
pub use Rattle.span_keyed_tracks.specs.Keyed.{Keyed}
pub use Rattle.span_journal.specs.{Journal.accepted, Order.thread_of_row, Rows.thread_keys, declared.{entry.Entry.Entry, rows.ThreadRow.ThreadRow}}
pub use Rattle.span_report.specs.{Stacks.{Bounds.most_names, Folded.thread_stacks, Framed.{Framed, folded_after, folded_if, stack_after}, Frames.frame, Ticks.{Folded, Stack}}, declared.stacks.{fault.StacksFault.TheVariants.TooLarge, label.SpanColumn.SpanColumn}}
pub use Rattle.span_table.specs.{Adding.keyed_rows, Columns.{Run, Value, holder_name}, Kept.rows_with, Keys.TableKey, Laws.AreAlikeRuns, Sums.{no_sums, with_number}, Tables.{KeyedSums, RowsRise, SumsByKey, row_of, rows_of}, declared.{number.Number.TheVariants.Total, sums.Sums.Sums, table.Row.Row, table_sum.SumFault.TheVariants.TooMany}}
