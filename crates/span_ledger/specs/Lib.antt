pub mod Grouped
pub mod Named
pub mod Numbered
pub mod Telling
pub mod TrackRows
pub mod Tracked
pub use Rattle.span_event.specs.{Args.merged, Event.{IsGood, IsTime, least_time}, Given.Gives, Item.code_of, Orders.{reach_cmp, thread_cmp}, Text.{Bytes, same_text, text_cmp}, Thread.{same_thread, thread_of}, Time.distance, declared.{event.{Event.Event, Phase.{Phase, TheVariants.{AsyncBegin, AsyncEnd, AsyncPoint, Complete, Counter, FlowEnd, FlowStart, FlowStep, Instant, Meta, SpanBegin, SpanEnd}}, Reach.{Reach, TheVariants.{Global, Process}}}, fault.Fault.{Fault, TheVariants.{NameDiffers, TimeGoesBack}}, item.{Item.TheVariants.{Bad, Good, Other}, ItemFault.ItemFault}, thread.Thread.Thread}}
pub use Rattle.span_self_time.specs.{Closed.{AreClosed, IsInTime, greatest_until, span_of}, Laws.{AreSpans, IsApart}, Spans.{Arguments, Span, busy_time, count_from, covers, earliest, is_covered, is_outranked, latest, length_of, named, names_of, outranks, self_of, self_time, total_of}, declared.span.ClosedSpan.ClosedSpan}
pub use Rattle.span_names.specs.Numbering.{number_in, with_name}
pub use Rattle.span_keyed_tracks.specs.{Async.{AsyncEvent, AsyncKept, AsyncSpans, AsyncStandsFor, HasAsyncRoom, async_cmp, async_row, async_spans, async_spans_at, async_totals}, Counters.{CounterStandsFor, CountersKept, HasCounterRoom, series_cmp, series_from, series_keys, series_row, series_rows, series_rows_of, series_totals}, Fault.{Answers, refusal_of}, Flow.{FlowChains, FlowEvent, FlowKept, FlowPoint, FlowStandsFor, HasFlowRoom, OpenChain, TakesFlow, closed_at, finished, flow_chains, flow_chains_at, flow_closed, flow_cmp, flow_continued, flow_opened, flow_row, flow_totals, started, stepped}, Instants.{NamesCounted, ReachCounts, counts_of, instant_row, instants_in, names_counted, rows_of_name, rows_of_thread}, Keyed.{Keyed, ascending, entries_in, entry_of, kept_at, keys_in, steps_at}, Last.last_of, Matching.{closes, closes_all, map_step, opens, other}, Meta.{HasMetaRoom, MetaKept, MetaStandsFor, names_in}, declared.{async_track.AsyncRow.AsyncRow, counter_track.SeriesRow.SeriesRow, fault.TrackFault.{TrackFault, TheVariants.{Memory, Refused}}, flow_track.{FlowClosed.FlowClosed, FlowRow.FlowRow}, keys.{AsyncKey.AsyncKey, FlowKey.FlowKey, SeriesKey.SeriesKey}, meta_track.instants.InstantRow.InstantRow}}
pub use Rattle.span_track.specs.{Nesting.{Begin, Ending, ThreadEvent, began, closed_spans, depth_of, ended, last_time, latest_time, open_spans, opener, sealed, span_between, span_sealed, whole_span}, Thread.{AreBefore, HasRoom, IsBefore, IsNext, IsSealTime, StandsFor, TakesEvent, ThreadSpans, any_name, begin_refusal, closing, end_refusal, goes_back, merged_args, merged_with, opening, suits, thread_spans}, declared.wanted.Wanted.Wanted}
pub use Rattle.span_journal.specs.{Answers.{act_answer, answered, async_answer, counter_answer, flow_answer, flow_point_answer, meta_answer, thread_answer, thread_step_answer, told_answer}, ByProcess.{ProcessRows, ThreadRows, rows_by_process, rows_in_process, rows_in_thread, threads_in}, Journal.{Accepted, Act, a_seal, accepted, accepted_by, act_in, an_event, next_accepted, placed}, Kind.{is_accepting, is_of}, Legal.{IsGoodOp, IsKept, IsLawful, Kept, next_entry}, Order.{async_order, flow_order, instant_order, name_order, process_order, series_order, span_order, thread_of_instant, thread_of_row, thread_of_span, thread_order}, Replies.{name_reply, process_reply, reply_to, thread_names_reply, thread_reply}, Rows.{CanGrow, async_rows, count_row, counted, flow_rows, instant_rows, longest_async, process_keys, process_row, process_rows, span_row, span_rows, span_rows_of, thread_keys, thread_row, thread_rows, thread_span_rows}, Timed.{Timed, self_times, timed_in, timed_spans, with_self_times}, Told.{SpanEvent, Told, async_event, async_events, counter_events, flow_event, flow_events, flow_key, flow_point, is_of_span, listed_by, lists_thread, meta_events, process_listed_by, span_event, span_events, span_step, suits_end, thread_events, thread_listed_by, thread_seal, to_async, to_async_at, to_counter, to_counter_at, to_flow, to_flow_at, to_meta, to_meta_at, to_thread, to_thread_at, told, told_at, told_by}, declared.{entry.{Answer.{Answer, TheVariants.{Closed, FlowEnded, FlowStarted, Opened, Reply, Sealed, Skipped}}, Entry.Entry, Op.{Op, TheVariants.{Ask, One, Seal}}}, kind.Kind.TheVariants.Replied, query.Query.Query, refusal.Cause.{Cause, TheVariants.Full}, reply.Reply.TheVariants.{Async, Flow, Name, Series}, rows.{ProcessRow.ProcessRow, SpanRow.SpanRow, ThreadRow.ThreadRow}}}
unfoldable pub use Rattle.span_journal.specs.Answers.{answer_to}
