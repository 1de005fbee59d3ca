pub mod Laws
pub mod Lines
pub mod Output
pub mod Report
pub mod Sink
pub mod Stacks
pub use Rattle.span_event.specs.{Args.{Arguments, value_of}, Event.least_time, Fault.number_of, Text.{Bytes, same_text, text_cmp}, Time.distance, declared.{args.ArgValue.{ArgValue, TheVariants.{Flag, Nil, Other, Whole, Words}}, event.{IdKey.IdKey, Reach.{Reach, TheVariants.{Global, Process}}}, fault.Fault.TheVariants.{Memory}, thread.Thread.Thread, unit.Unit.{Unit, TheVariants.{Microseconds, Nanoseconds}}}}
pub use Rattle.span_self_time.specs.{Closed.greatest_until, Laws.{AreSpans, IsApart}, Positions.{Rises, renumbered_span}, Spans.{Span, busy_time, count_from, covers, earliest, is_covered, is_outranked, latest, named, outranks, self_of, self_time}}
pub use Rattle.span_keyed_tracks.specs.{Async.async_cmp, Flow.flow_cmp, Keyed.ascending, Last.last_of, declared.{async_track.AsyncRow.AsyncRow, counter_track.{SeriesRow.SeriesRow, SeriesTotals.SeriesTotals}, flow_track.FlowRow.FlowRow, keys.{AsyncKey.AsyncKey, FlowKey.FlowKey}, meta_track.instants.InstantRow.InstantRow}}
pub use Rattle.span_track.specs.Nesting.{closed_spans}
pub use Rattle.span_journal.specs.{ByProcess.{ProcessRows, ThreadRows, rows_by_process, rows_in_process}, Rows.{async_rows, count_row, flow_rows}, Told.thread_events, Topics.{AreAlike, acts_on, of_async, of_flow, of_process}, declared.{entry.Entry.Entry, rows.{CountRow.CountRow, ProcessRow.ProcessRow, SpanRow.SpanRow, ThreadRow.ThreadRow}}}
pub use Rattle.span_ledger.specs.Named.{AreThreadSpans, IsTimely}
