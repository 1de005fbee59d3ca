-- The threads and series that are grouped by process.
use Rattle.std.specs.{List.Sorted.IsStrictlySortedBy, Ordering.{int_cmp, int_eq}, Prelude.{◌≡◌, if◌then◌else◌, ℤ, List, [], ◌∷◌, ◌++◌, map, filter}}
use Rattle.span_ledger.specs.{SeriesRow, entry_of, Entry, Thread, ProcessRows, rows_in_thread, process_row}

-- threads and series of one process
pub record Grouped : Type 0 where
  pub threads : List Thread
  pub series : List SeriesRow

abbrev pub with_thread : Thread → Grouped → Grouped
with_thread thread group = record { threads = group.threads ++ thread ∷ []; series = group.series }

abbrev pub with_series : SeriesRow → Grouped → Grouped
with_series row group = record { threads = group.threads; series = group.series ++ row ∷ [] }

-- those of a process, of these threads and series
abbrev pub group_of : List Thread → List SeriesRow → ℤ → Grouped
group_of threads rows pid = record {
  threads = filter (λ thread. int_eq thread.pid pid) threads;
  series = filter (λ row. int_eq row.key.pid pid) rows;
}

-- each of these processes with its own
abbrev pub groups_of : List ℤ → List Thread → List SeriesRow → List (ℤ × Grouped)
groups_of pids threads rows = map (entry_of (group_of threads rows)) pids

-- what is grouped under this process changes so, and nothing else
abbrev pub GroupsGrow : ℤ → (Grouped → Grouped) → List (ℤ × Grouped) → List (ℤ × Grouped) → Type 0
GroupsGrow pid grow old new = (f : ℤ → Grouped) (pids : List ℤ) → IsStrictlySortedBy int_cmp pids → old ≡ map (entry_of f) pids →
    new ≡ map (entry_of (λ q. if int_eq pid q then grow (f q) else f q)) pids

-- the rows of a process with what is grouped under it
abbrev pub rows_in_group : List Entry → ℤ × Grouped → ProcessRows
rows_in_group journal (pid, group) = record {
  row = process_row journal pid;
  threads = map (rows_in_thread journal) group.threads;
  series = group.series;
}
