pub mod Adding
pub mod Collected
pub mod Columns
pub mod Counts
pub mod Kept
pub mod KeyLaws
pub mod KeyWrites
pub mod Keys
pub mod Laws
pub mod Merging
pub mod Numbers
pub mod RowSearch
pub mod Sums
pub mod Tables
pub use Rattle.span_event.specs.{Args.{Arguments, value_of}, Orders.{thread_cmp, value_cmp}, Text.{Bytes, same_text, text_cmp}, Thread.thread_of, Time.distance, ValueLaws.value_cmp_total, declared.{args.ArgValue.{ArgValue, TheVariants.{Flag, Nil, Other, Whole, Words}}, event.Phase.{Phase, TheVariants.{Complete, SpanBegin, SpanEnd}}, thread.Thread.Thread}}
pub use Rattle.span_self_time.specs.{Laws.{AreSpans, is_child}, Positions.{Rises, renumbered_span}, Spans.{Span, busy_time, length_of, named, outranks}}
pub use Rattle.span_keyed_tracks.specs.{Instants.is_instant, Keyed.{AreDistinct, Keyed, ascending, entries_in, entry_of, in_key_order, keys_in, steps_at}, Matching.{closed_after, closes, closes_all, open_of, opens, other}, Meta.{Holder, Names, names_thread}, declared.{async_track.AsyncRow.AsyncRow, keys.AsyncKey.AsyncKey}}
pub use Rattle.span_track.specs.Nesting.{ThreadEvent, closed_spans, span_between, span_sealed, whole_span}
pub use Rattle.span_journal.specs.{Journal.{Accepted, Act, a_seal, accepted, an_event}, Legal.IsLegal, Order.{span_order, thread_of_row, thread_of_span}, Rows.{async_rows, count_row, longest_async, names_of, span_row, span_rows, thread_keys, thread_row, thread_rows, thread_span_rows}, Timed.{Timed, timed_in, timed_spans, with_self_times}, Told.{SpanEvent, is_of_span, listed_by, lists_thread, span_event, span_events, thread_events, to_thread_at, told_at, told_by}, Topics.{AreAlike, of_process}, declared.{entry.Entry.Entry, rows.{CountRow.CountRow, SpanRow.SpanRow, ThreadRow.ThreadRow}}}
pub use Rattle.span_report.specs.Lines.{with_home}
pub use Rattle.span_parents.specs.Holding.{higher, highest, holders, is_outer, parent_of, spans_of}
