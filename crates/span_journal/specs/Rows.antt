-- The rows of a journal, in the order in which a report prints them.
use Rattle.std.specs.{Ordering.int_cmp, Prelude.{◌+◌, ◌<◌, ◌^◌, if◌then◌else◌, ℕ, ℤ, List, length, map, filter_map, flat_map, count_by, Some, None}}
use Rattle.span_journal.specs.{Bytes, same_text, text_cmp, thread_cmp, Span, busy_time, named, total_of, self_of, AsyncKey, AsyncRow, SeriesRow, FlowRow, InstantRow, async_cmp, async_spans, steps_at, async_rows as track_async_rows, series_rows as track_series_rows, instant_rows as track_instant_rows, flow_rows as track_flow_rows, ascending, Holder, Names, names_in, depth_of, closed_spans, Thread, Journal.{Accepted, accepted}, Kind.is_of, Told.{listed_by, process_listed_by, thread_events, async_events, flow_events, counter_events, meta_events}, declared.{entry.{Answer.Answer, Entry.Entry}, kind.Kind.{Kind, TheVariants.{Accepted as accepted_kind, Refused as refused_kind, Skipped as skipped_kind, Replied as replied_kind, Sealed as sealed_kind}}, rows.{CountRow.CountRow, ProcessRow.ProcessRow, SpanRow.SpanRow, ThreadRow.ThreadRow}}}

-- how many entries have an answer of this kind
abbrev pub count_of : Kind → List Entry → ℕ
count_of kind journal = count_by (λ entry. is_of kind entry.answer) journal

-- how many entries are accepted events, how many were refused and skipped, and how many are queries and seals
abbrev pub count_row : List Entry → CountRow
count_row journal = record {
  accepted = count_of accepted_kind journal;
  refused = count_of refused_kind journal;
  skipped = count_of skipped_kind journal;
  queries = count_of replied_kind journal;
  seals = count_of sealed_kind journal;
}

-- each of the counts can be one greater
abbrev pub CanGrow : CountRow → Type 0
CanGrow row = (row.accepted + 1 < 2 ^ 32) × (row.refused + 1 < 2 ^ 32) × (row.skipped + 1 < 2 ^ 32) × (row.queries + 1 < 2 ^ 32) × (row.seals + 1 < 2 ^ 32)

-- the counts with one more entry, which has this answer
abbrev pub counted : CountRow → Answer → CountRow
counted row answer = record {
  accepted = row.accepted + (if is_of accepted_kind answer then 1 else 0);
  refused = row.refused + (if is_of refused_kind answer then 1 else 0);
  skipped = row.skipped + (if is_of skipped_kind answer then 1 else 0);
  queries = row.queries + (if is_of replied_kind answer then 1 else 0);
  seals = row.seals + (if is_of sealed_kind answer then 1 else 0);
}

-- the processes that have an accepted event, of any phase
abbrev pub process_keys : List Accepted → List ℤ
process_keys events = ascending int_cmp (filter_map (λ a. process_listed_by a.act) events)

-- the threads that are listed for accepted events
abbrev pub thread_keys : List Accepted → List Thread
thread_keys events = ascending thread_cmp (filter_map (λ a. listed_by a.act) events)

-- the names that a journal gives a process or thread
abbrev pub names_of : List Entry → Holder → Names
names_of journal holder = names_in (meta_events (accepted journal)) holder

abbrev pub process_row : List Entry → ℤ → ProcessRow
process_row journal pid = record { pid = pid; name = (names_of journal (pid, None)).name }

abbrev pub process_rows : List Entry → List ProcessRow
process_rows journal = map (process_row journal) (process_keys (accepted journal))

abbrev pub thread_row : List Entry → Thread → ThreadRow
thread_row journal thread = let events = thread_events thread journal in record {
  pid = thread.pid;
  tid = thread.tid;
  name = (names_of journal (thread.pid, Some thread.tid)).name;
  unclosed = depth_of events;
  busy = busy_time (closed_spans events);
}

abbrev pub thread_rows : List Entry → List ThreadRow
thread_rows journal = map (thread_row journal) (thread_keys (accepted journal))

-- the closed spans of one name
abbrev pub span_row : Thread → List (Span Bytes) → Bytes → SpanRow
span_row thread spans name = record {
  pid = thread.pid;
  tid = thread.tid;
  name = name;
  count = length (named same_text name spans);
  total = total_of same_text name spans;
  self_time = self_of same_text name spans;
}

-- a row for each name of the spans, in byte order of names
abbrev pub span_rows_of : Thread → List (Span Bytes) → List SpanRow
span_rows_of thread spans = map (span_row thread spans) (ascending text_cmp (map (λ s. s.name) spans))

abbrev pub thread_span_rows : List Entry → Thread → List SpanRow
thread_span_rows journal thread = span_rows_of thread (closed_spans (thread_events thread journal))

abbrev pub span_rows : List Entry → List SpanRow
span_rows journal = flat_map (thread_span_rows journal) (thread_keys (accepted journal))

-- the asynchronous keys that have an accepted event, in their order
abbrev pub async_rows : List Entry → List AsyncRow
async_rows journal = track_async_rows (async_events (accepted journal))

-- the length of the longest closed span of an asynchronous key; 0 where it has none
abbrev pub longest_async : List Entry → AsyncKey → ℕ
longest_async journal key = (async_spans (steps_at async_cmp key (async_events (accepted journal)))).longest

-- the instants of each thread, name and reach, in their order
abbrev pub instant_rows : List Entry → List InstantRow
instant_rows journal = track_instant_rows (meta_events (accepted journal))

-- the series that have a sample, in their order
abbrev pub series_rows : List Entry → List SeriesRow
series_rows journal = track_series_rows (counter_events (accepted journal))

-- the flow keys that have an accepted event, in their order
abbrev pub flow_rows : List Entry → List FlowRow
flow_rows journal = track_flow_rows (flow_events (accepted journal))
