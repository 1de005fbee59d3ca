-- What a journal has of each process, and of each of its threads: a report says this, process by process.
use Rattle.std.specs.{Ordering.int_eq, Prelude.{ℤ, List, map, filter, filter_map}}
use Rattle.span_journal.specs.{thread_cmp, SeriesRow, InstantRow, series_rows_of, instant_rows_of, ascending, Thread, Journal.{Accepted, accepted}, Rows.{process_keys, process_row, thread_row, thread_span_rows}, Told.{listed_by, counter_events, meta_events}, declared.{entry.Entry.Entry, rows.{ProcessRow.ProcessRow, SpanRow.SpanRow, ThreadRow.ThreadRow}}}

-- the rows of a thread: its own, one for each name of its closed spans, and one for each name and reach of its instants
pub record ThreadRows : Type 0 where
  pub row : ThreadRow
  pub spans : List SpanRow
  pub instants : List InstantRow

-- the rows of a process: its own, those of each of its threads, and one for each of its series
pub record ProcessRows : Type 0 where
  pub row : ProcessRow
  pub threads : List ThreadRows
  pub series : List SeriesRow

-- the threads of a process that are listed for accepted events, in ascending order
abbrev pub threads_in : ℤ → List Accepted → List Thread
threads_in pid events = ascending thread_cmp (filter (λ thread. int_eq thread.pid pid) (filter_map (λ a. listed_by a.act) events))

abbrev pub rows_in_thread : List Entry → Thread → ThreadRows
rows_in_thread journal thread = record {
  row = thread_row journal thread;
  spans = thread_span_rows journal thread;
  instants = instant_rows_of thread (meta_events (accepted journal));
}

abbrev pub rows_in_process : List Entry → ℤ → ProcessRows
rows_in_process journal pid = record {
  row = process_row journal pid;
  threads = map (rows_in_thread journal) (threads_in pid (accepted journal));
  series = series_rows_of pid (counter_events (accepted journal));
}

-- the rows of each process that has an accepted event, in ascending order of processes
abbrev pub rows_by_process : List Entry → List ProcessRows
rows_by_process journal = map (rows_in_process journal) (process_keys (accepted journal))
