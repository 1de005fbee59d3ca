-- Tables: the closed spans of runs, or their asynchronous spans, summed by columns.
use Rattle.std.specs.{List.{IsDistinct, Sorted.IsStrictlySortedBy}, Option.option_map, Ordering.eq_by_cmp, Prelude.{◌≡◌, List, map, flat_map, sum_by}, declared.cmp.Ordering.Ordering}
use Rattle.span_table.specs.{Thread, AsyncRow, Keyed, ascending, entries_in, CountRow, accepted, async_rows, count_row, longest_async, thread_keys, Timed, timed_spans, thread_events, Bytes, Span, closed_spans, is_outer, length_of, parent_of, Columns.{Called, async_value_at, value_at}, Keys.{TableKey, key_cmp}, Numbers.usual_numbers, Sums.{only, sums_of_async, sums_of_span}, declared.{column.Column.Column, counts.TableCounts.TableCounts, number.Number.Number, of.Of.{Of, TheVariants.{Spans, Async}}, audience.Audience.TheVariants.Programs, sums.Sums.Sums, table.Row.Row}}
pub use Rattle.span_table.specs.{Columns.Run, Sums.sums_together}

-- the numbers of one of the spans of a thread
abbrev pub sums_of : List (Span Bytes) → Timed → Sums
sums_of spans t = sums_of_span (length_of t.span) t.self_time (is_outer spans t.span)

-- sums, each under its key
abbrev pub KeyedSums : Type 0
KeyedSums = List (Keyed TableKey Sums)

-- what a span is called
abbrev pub called : Span Bytes → Called
called s = record { name = s.name; args = s.args }

-- the key that one of the spans of a thread has
abbrev pub span_key : List Column → Run → Thread → List (Span Bytes) → Span Bytes → TableKey
span_key columns run thread spans s = map (value_at run thread (called s) (option_map called (parent_of spans s))) columns

-- a closed span of a thread, under its key
abbrev pub keyed_span : List Column → Run → Thread → List (Span Bytes) → Timed → Keyed TableKey Sums
keyed_span columns run thread spans t = record { key = span_key columns run thread spans t.span; step = sums_of spans t }

-- the closed spans of a thread
abbrev pub thread_sums : List Column → Run → Thread → KeyedSums
thread_sums columns run thread = map (keyed_span columns run thread (closed_spans (thread_events thread run.journal))) (timed_spans run.journal thread)

-- those of all threads of a run
abbrev pub span_sums : List Column → Run → KeyedSums
span_sums columns run = flat_map (thread_sums columns run) (thread_keys (accepted run.journal))

-- what an asynchronous key has, under the key of the table
abbrev pub keyed_async : List Column → Run → AsyncRow → Keyed TableKey Sums
keyed_async columns run row = record { key = map (async_value_at run row.key) columns; step = sums_of_async row (longest_async run.journal row.key) }

-- what the asynchronous keys of a run have that have an accepted event
abbrev pub async_sums : List Column → Run → KeyedSums
async_sums columns run = map (keyed_async columns run) (async_rows run.journal)

-- what there is to sum of a run, by its columns
abbrev pub run_sums : Of → List Column → Run → KeyedSums
run_sums Spans columns run = span_sums columns run
run_sums Async columns run = async_sums columns run

-- each key with its sums
abbrev pub SumsByKey : Type 0
SumsByKey = List (TableKey × Sums)

-- the keys that occur, once, in ascending order, each with all its sums added
abbrev pub summed : KeyedSums → SumsByKey
summed sums = entries_in key_cmp sums_together sums

abbrev pub row_of : TableKey × Sums → Row
row_of (key, sums) = record { key = key; sums = sums }

abbrev pub rows_of : KeyedSums → List Row
rows_of sums = map row_of (summed sums)

-- the order of rows, which is that of their keys
abbrev pub row_cmp : Row → Row → Ordering
row_cmp a b = key_cmp a.key b.key

-- keys rise, so none comes twice
abbrev pub RowsRise : List Row → Type 0
RowsRise rows = IsStrictlySortedBy row_cmp rows

-- these are the rows of a table, in whatever order
pub record AreRowsOf (rows mixed : List Row) : Type 0 where
  pub distinct : IsDistinct (eq_by_cmp row_cmp) mixed
  pub sorted : rows ≡ ascending row_cmp mixed

-- the counts of the entries of runs added
abbrev pub entry_counts_together : List CountRow → CountRow
entry_counts_together rows = record {
  accepted = sum_by (λ (row : CountRow). row.accepted) rows;
  refused = sum_by (λ (row : CountRow). row.refused) rows;
  skipped = sum_by (λ (row : CountRow). row.skipped) rows;
  queries = sum_by (λ (row : CountRow). row.queries) rows;
  seals = sum_by (λ (row : CountRow). row.seals) rows;
}

-- the counts of tables added
abbrev pub counts_together : List TableCounts → TableCounts
counts_together all = record {
  runs = sum_by (λ (counts : TableCounts). counts.runs) all;
  files = sum_by (λ (counts : TableCounts). counts.files) all;
  unread = sum_by (λ (counts : TableCounts). counts.unread) all;
  entries = entry_counts_together (map (λ (counts : TableCounts). counts.entries) all);
}

-- the counts of one run
abbrev pub counts_of : Run → TableCounts
counts_of run = record { runs = 1; files = run.files; unread = run.unread; entries = count_row run.journal }

-- what a table sums, by which columns, and which numbers it has
pub record Schema : Type 0 where
  pub of : Of
  pub columns : List Column
  pub numbers : List Number

-- the same with the numbers that rows for other programs have where none are named
abbrev pub usual_schema : Of → List Column → Schema
usual_schema of columns = record { of = of; columns = columns; numbers = usual_numbers Programs of }

-- spans summed by columns
pub record SpanTable : Type 0 where
  pub schema : Schema
  pub counts : TableCounts
  pub rows : List Row

-- these numbers of sums alone, under their key
abbrev pub with_only : {K : Type 0} → List Number → Keyed K Sums → Keyed K Sums
with_only numbers e = record { key = e.key; step = only numbers e.step }

-- what a table of a schema sums of a run
abbrev pub schema_sums : Schema → Run → KeyedSums
schema_sums schema run = map (with_only schema.numbers) (run_sums schema.of schema.columns run)

-- the table of some runs
abbrev pub table_of : Schema → List Run → SpanTable
table_of schema runs = record {
  schema = schema;
  counts = counts_together (map counts_of runs);
  rows = rows_of (flat_map (schema_sums schema) runs);
}
