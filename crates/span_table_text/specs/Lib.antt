pub mod AskedNumbers
pub mod Json
pub mod Lines
pub mod Printed
pub mod Ranking
pub mod Ranks
pub mod Rows
pub mod Shown
pub mod Tokens
pub use Rattle.span_event.specs.{Args.as_text, Text.Bytes, declared.{args.ArgValue.{ArgValue, TheVariants.{Flag, Nil, Other, Whole, Words}}, unit.Unit.{Unit, TheVariants.{Microseconds, Nanoseconds}}}}
pub use Rattle.span_keyed_tracks.specs.{Keyed.{Keyed, ascending, entry_of, keys_in, steps_at}, declared.keys.AsyncKey.AsyncKey}
pub use Rattle.span_journal.specs.{Journal.accepted, Legal.IsLegal, Rows.{async_rows, longest_async, names_of, thread_keys}, Timed.{Timed, timed_spans}, Told.thread_events, declared.rows.CountRow.CountRow}
pub use Rattle.span_report.specs.{Lines.{line_of, or_dash, right_in}, Report.head_lines}
pub use Rattle.span_self_time.specs.Spans.{Span}
pub use Rattle.span_track.specs.Nesting.{closed_spans}
pub use Rattle.span_parents.specs.Holding.{parent_of}
pub use Rattle.span_table.specs.{Adding.{AreAmong, add_tables}, Columns.{Called, Run, Value, async_value_at, column_name, goes_with, is_column, value_at}, Counts.{counts_fit, entry_counts_fit}, KeyLaws.key_cmp_total, Keys.{TableKey, key_cmp}, Numbers.{all_of, are_same, has_number, number_name, number_width, usual_by, usual_numbers}, Sums.{fit, number_by, only}, Tables.{KeyedSums, RowsRise, Schema, SpanTable, called, counts_together, keyed_async, keyed_span, row_of, rows_of, run_sums, schema_sums, sums_together, table_of, thread_sums, with_only}, declared.{audience.Audience.{Audience, TheVariants.{Programs}}, column.Column.{Column, TheVariants.{Argument, Cat, File, Id, Name, ParentArgument, ParentName, Pid, Process, Scope, Thread, Tid}}, counts.TableCounts.TableCounts, number.Number.{Number, TheVariants.{Closed, Count, Open, Points, SelfTime}}, of.Of.{Of, TheVariants.{Async, Spans}}, sums.Sums.Sums, table.Row.Row}}
