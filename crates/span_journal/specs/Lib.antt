pub mod Answers
pub mod ByProcess
pub mod Journal
pub mod Kind
pub mod Legal
pub mod Order
pub mod Refusal
pub mod Replies
pub mod Rows
pub mod Timed
pub mod Told
pub mod Topics
pub use Rattle.span_event.specs.{Args.{merged, value_of}, Fault.number_of, Item.{IsGoodItem, code_of}, Orders.{reach_cmp, thread_cmp}, Text.{Bytes, same_text, text_cmp}, Thread.thread_of, Time.distance, declared.{event.{Event.Event, IdKey.IdKey, Phase.{Phase, TheVariants.{AsyncBegin, AsyncEnd, AsyncPoint, Complete, Counter, FlowEnd, FlowStart, FlowStep, Instant, Meta, SpanBegin, SpanEnd}}}, fault.Fault.{Fault, TheVariants.{Busy, Full, Memory, NameDiffers, TimeGoesBack}}, item.Item.TheVariants.{Bad, Good, Other}, thread.Thread.Thread}}
pub use Rattle.span_self_time.specs.{Laws.{AreSpans, IsApart}, Positions.{AreRenumbered, Rises, renumbered_span}, Spans.{Arguments, Span, busy_time, named, self_of, self_time, total_of}}
pub use Rattle.span_keyed_tracks.specs.{Async.{AsyncEvent, AsyncStep, async_cmp, async_matched, async_row, async_rows, async_spans, async_totals}, Counters.{Series, as_sample, sample_of, samples_of, series_cmp, series_from, series_key, series_keys, series_of, series_row, series_rows, series_rows_of, series_totals}, Flow.{FlowEvent, FlowPoint, OpenChain, chain_of, finished, flow_chains, flow_cmp, flow_continued, flow_opened, flow_row, flow_rows, flow_totals, started, stepped, summary}, Instants.{instant_rows, instant_rows_of, is_instant}, Keyed.{Keyed, ascending, entries_in, entry_of, keys_in, steps_at}, Last.{last_of, without_last}, Matching.{closes, closes_all, map_step, opener, opens, other}, Meta.{Holder, Names, names_in, names_thread}, declared.{async_track.AsyncRow.AsyncRow, counter_track.SeriesRow.SeriesRow, flow_track.FlowRow.FlowRow, keys.{AsyncKey.AsyncKey, FlowKey.FlowKey, SeriesKey.SeriesKey}, meta_track.instants.InstantRow.InstantRow}}
pub use Rattle.span_track.specs.{Nesting.{Begin, ThreadEvent, began, closed_spans, completed, depth_of, ended, last_time, latest_time, matched_span, open_spans, renumbered_begin, sealed, span_sealed}, Thread.{AreBefore, IsBefore, IsNext, IsSealTime, ThreadSpans, any_name, closing, goes_back, opening, thread_spans}}
