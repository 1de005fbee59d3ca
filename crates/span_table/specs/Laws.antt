-- The facts that hold of every table.
use Rattle.std.specs.{List.{IsDistinct, Sorted.IsPermutation}, Ordering.{eq_by_cmp, is_eq}, Prelude.{◌≡◌, Bool, List, [], ◌∷◌, filter, map, sum_by, take, Some}}
use Rattle.span_table.specs.{Whole, Words, Thread, AsyncRow, SpanRow, async_rows, span_rows, thread_row, IsLegal, AreAlike, with_home, Keys.{TableKey, key_cmp}, Sums.{sums_of_async, sums_of_row}, Tables.{Run, RowsRise, Schema, table_of, usual_schema}, declared.{column.Column.{Column, TheVariants.{Pid, Tid, Name, Cat, Scope, Id}}, of.Of.TheVariants.{Spans, Async}, table.Row.Row}}

-- two runs have journals that are alike, and as many files, of which as many were refused, and the same name of an only file
pub record AreAlikeRuns (run other : Run) : Type 0 where
  pub journals : AreAlike run.journal other.journal
  pub files : run.files ≡ other.files
  pub unread : run.unread ≡ other.unread
  pub file : run.file ≡ other.file

-- each run is alike the one at its place
abbrev pub AreAllAlike : List Run → List Run → Type 0
AreAllAlike [] [] = Unit {0}
AreAllAlike (run ∷ runs) (other ∷ others) = AreAlikeRuns run other × AreAllAlike runs others
AreAllAlike runs others = ⊥

-- runs that are alike have the same table
abbrev pub TablesFollowFromActs : Type 0
TablesFollowFromActs = (schema : Schema) (runs others : List Run) → AreAllAlike runs others → table_of schema runs ≡ table_of schema others

-- each key has one place
abbrev pub KeysStandOnce : Type 0
KeysStandOnce = (schema : Schema) (runs : List Run) → RowsRise (table_of schema runs).rows

-- the columns of the rows of spans, and such a row as one of a table
abbrev pub row_columns : List Column
row_columns = Pid ∷ Tid ∷ Name ∷ []

abbrev pub of_span_row : SpanRow → Row
of_span_row row = record { key = Some (Whole row.pid) ∷ Some (Whole row.tid) ∷ Some (Words row.name) ∷ []; sums = sums_of_row row }

-- by process, thread and name a table of one run has the rows of spans
abbrev pub RowsAreSpanRows : Type 0
RowsAreSpanRows = (run : Run) → (table_of (usual_schema Spans row_columns) (run ∷ [])).rows ≡ map of_span_row (span_rows run.journal)

-- the values of a process and a thread
abbrev pub thread_key : Thread → TableKey
thread_key thread = Some (Whole thread.pid) ∷ Some (Whole thread.tid) ∷ []

-- the rows of a thread: those whose keys begin with its values
abbrev pub rows_of_thread : Thread → List Row → List Row
rows_of_thread thread rows = filter (λ (row : Row). is_eq (key_cmp (take 2 row.key) (thread_key thread))) rows

-- by process, thread and name the self times of a thread's rows add up to its busy time
abbrev pub AddUpToBusy : Run → Thread → Type 0
AddUpToBusy run thread = sum_by (λ (row : Row). row.sums.self_time) (rows_of_thread thread (table_of (usual_schema Spans row_columns) (run ∷ [])).rows) ≡ (thread_row run.journal thread).busy

-- this holds of each thread of a run, whose journal is legal
abbrev pub RowsAddUpToBusy : Type 0
RowsAddUpToBusy = (strict : Bool) (run : Run) (thread : Thread) → IsLegal strict run.journal → AddUpToBusy run thread

-- the columns of the asynchronous rows, and such a row as one of a table without the longest
abbrev pub async_columns : List Column
async_columns = Cat ∷ Scope ∷ Id ∷ Name ∷ []

abbrev pub of_async_row : AsyncRow → Row
of_async_row row = record {
  key = Some (Words row.key.cat) ∷ Some (Words row.key.scope) ∷ Some (Words (with_home row.key.id.home row.key.id.id)) ∷ Some (Words row.key.name) ∷ [];
  sums = sums_of_async row 0;
}

-- no two of the rows have the same texts, as an id that is known everywhere may have those of one that belongs to a process
abbrev pub HaveDistinctTexts : List AsyncRow → Type 0
HaveDistinctTexts rows = IsDistinct (eq_by_cmp key_cmp) (map (λ (row : AsyncRow). (of_async_row row).key) rows)

-- by category, scope, id and name a table of one run has its asynchronous rows, in the order of their texts, if these distinguish them
abbrev pub RowsAreAsyncRows : Type 0
RowsAreAsyncRows = (run : Run) → HaveDistinctTexts (async_rows run.journal) → IsPermutation (map of_async_row (async_rows run.journal)) (table_of (usual_schema Async async_columns) (run ∷ [])).rows

-- by whatever columns, the rows of a table of one run have in all what its asynchronous rows have
pub record AddUpToAsync (columns : List Column) (run : Run) : Type 0 where
  pub closed : sum_by (λ (row : Row). row.sums.count) (table_of (usual_schema Async columns) (run ∷ [])).rows ≡ sum_by (λ (row : AsyncRow). row.totals.closed) (async_rows run.journal)
  pub total : sum_by (λ (row : Row). row.sums.total) (table_of (usual_schema Async columns) (run ∷ [])).rows ≡ sum_by (λ (row : AsyncRow). row.totals.total) (async_rows run.journal)
  pub unclosed : sum_by (λ (row : Row). row.sums.unclosed) (table_of (usual_schema Async columns) (run ∷ [])).rows ≡ sum_by (λ (row : AsyncRow). row.totals.unclosed) (async_rows run.journal)
  pub points : sum_by (λ (row : Row). row.sums.points) (table_of (usual_schema Async columns) (run ∷ [])).rows ≡ sum_by (λ (row : AsyncRow). row.totals.points) (async_rows run.journal)

abbrev pub RowsAddUpToAsync : Type 0
RowsAddUpToAsync = (columns : List Column) (run : Run) → AddUpToAsync columns run
