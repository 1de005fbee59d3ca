-- The report of a journal.
use Rattle.std.specs.Prelude.{ℕ, List, ◌++◌, flat_map}
use Rattle.span_report.specs.{Unit, Entry, CountRow, ProcessRows, ThreadRows, rows_by_process, async_rows, count_row, flow_rows, Lines.{async_line, count_line, counter_line, first_line, flow_line, instant_line, process_line, seals_line, span_line, thread_line, unit_line}}

-- the line of a thread, after it one for each of its names, and then one for each name and reach of its instants
abbrev pub thread_lines : ThreadRows → List ℕ
thread_lines thread = thread_line thread.row ++ (flat_map span_line thread.spans ++ flat_map instant_line thread.instants)

-- the line of a process, after it the lines of each of its threads, and then one for each of its series
abbrev pub process_lines : ProcessRows → List ℕ
process_lines process = process_line process.row ++ (flat_map thread_lines process.threads ++ flat_map counter_line process.series)

-- the head: two lines, between them one more that says a unit other than microseconds, and behind them one more where spans were sealed
abbrev pub head_lines : Unit → CountRow → List ℕ
head_lines unit counts = first_line ++ (unit_line unit ++ (count_line counts ++ seals_line counts.seals))

-- the head, and then the lines of processes, of asynchronous keys and of flow keys
abbrev pub report_of : Unit → List Entry → List ℕ
report_of unit journal =
    head_lines unit (count_row journal) ++ (flat_map process_lines (rows_by_process journal) ++ (flat_map async_line (async_rows journal) ++ flat_map flow_line (flow_rows journal)))
