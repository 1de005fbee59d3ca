-- The closed spans of a thread, each with its self time.
use Rattle.std.specs.Prelude.{ℕ, List, map}
use Rattle.span_journal.specs.{Bytes, Thread, Span, self_time, closed_spans, Told.thread_events, declared.entry.Entry.Entry}

-- the times that the spans have among them
abbrev pub self_times : List (Span Bytes) → List ℕ
self_times spans = map (self_time spans) spans

-- a span with the text of its name, and its self time
pub record Timed : Type 0 where
  pub span : Span Bytes
  pub self_time : ℕ

-- a span with the time that it has among these
abbrev pub timed_in : List (Span Bytes) → Span Bytes → Timed
timed_in spans s = record { span = s; self_time = self_time spans s }

abbrev pub with_self_times : List (Span Bytes) → List Timed
with_self_times spans = map (timed_in spans) spans

-- the closed spans of a thread, in the order of the events that closed them
abbrev pub timed_spans : List Entry → Thread → List Timed
timed_spans journal thread = with_self_times (closed_spans (thread_events thread journal))
