-- The order of rows.
use Rattle.std.specs.{Ordering.{int_cmp, ordering_then}, declared.cmp.Ordering.Ordering}
use Rattle.span_journal.specs.{text_cmp, reach_cmp, thread_cmp, AsyncRow, SeriesRow, FlowRow, InstantRow, async_cmp, series_cmp, flow_cmp, Thread, declared.rows.{ProcessRow.ProcessRow, SpanRow.SpanRow, ThreadRow.ThreadRow}}

-- by process
abbrev pub process_order : ProcessRow → ProcessRow → Ordering
process_order a b = int_cmp a.pid b.pid

abbrev pub thread_of_row : ThreadRow → Thread
thread_of_row row = record { pid = row.pid; tid = row.tid }

-- by process and thread
abbrev pub thread_order : ThreadRow → ThreadRow → Ordering
thread_order a b = thread_cmp (thread_of_row a) (thread_of_row b)

abbrev pub thread_of_span : SpanRow → Thread
thread_of_span row = record { pid = row.pid; tid = row.tid }

-- by process and thread, and then by the bytes of the name
abbrev pub span_order : SpanRow → SpanRow → Ordering
span_order a b = ordering_then (thread_cmp (thread_of_span a) (thread_of_span b)) (text_cmp a.name b.name)

abbrev pub thread_of_instant : InstantRow → Thread
thread_of_instant row = record { pid = row.pid; tid = row.tid }

-- by the bytes of the name, and then the wider reach first
abbrev pub name_order : InstantRow → InstantRow → Ordering
name_order a b = ordering_then (text_cmp a.name b.name) (reach_cmp a.reach b.reach)

-- by process and thread, and then by name and reach
abbrev pub instant_order : InstantRow → InstantRow → Ordering
instant_order a b = ordering_then (thread_cmp (thread_of_instant a) (thread_of_instant b)) (name_order a b)

-- by process, the counter's name, id and series
abbrev pub series_order : SeriesRow → SeriesRow → Ordering
series_order a b = series_cmp a.key b.key

-- by category, scope, id and name
abbrev pub async_order : AsyncRow → AsyncRow → Ordering
async_order a b = async_cmp a.key b.key

-- by category, name and id
abbrev pub flow_order : FlowRow → FlowRow → Ordering
flow_order a b = flow_cmp a.key b.key
