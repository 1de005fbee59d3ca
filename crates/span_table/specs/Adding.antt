-- Tables are added, and lose nothing by it.
use Rattle.std.specs.{List.{list_all, Sorted.IsPermutation}, Prelude.{◌≡◌, ℕ, true, List, [], ◌∷◌, ◌++◌, map, filter_map, flat_map, length, slice_get}}
use Rattle.span_table.specs.{Keyed, Keys.TableKey, Numbers.has_number, Sums.only, Tables.{KeyedSums, Run, Schema, SpanTable, counts_together, rows_of, table_of}, declared.{counts.TableCounts.TableCounts, number.Number.Number, sums.Sums.Sums, table.Row.Row}}

-- the sums of a row, under its key
abbrev pub keyed_row : Row → Keyed TableKey Sums
keyed_row row = record { key = row.key; step = row.sums }

abbrev pub keyed_rows : List Row → KeyedSums
keyed_rows rows = map keyed_row rows

-- a table, and of how many parts it is: runs, or tables that were added
pub record SummedTable : Type 0 where
  pub parts : ℕ
  pub table : SpanTable

-- tables of the same schema added: counts added, and for each key that one of them has its sums
abbrev pub add_tables : Schema → List SpanTable → SpanTable
add_tables schema tables = record {
  schema = schema;
  counts = counts_together (map (λ (table : SpanTable). table.counts) tables);
  rows = rows_of (flat_map (λ (table : SpanTable). keyed_rows table.rows) tables);
}

-- a table with the counts of another added, and none of its rows
abbrev pub with_counts : SpanTable → TableCounts → SpanTable
with_counts table counts = record { schema = table.schema; counts = counts_together (table.counts ∷ counts ∷ []); rows = table.rows }

-- a table with a row of another added
abbrev pub with_row : SpanTable → Row → SpanTable
with_row table row = record { schema = table.schema; counts = table.counts; rows = rows_of (keyed_rows table.rows ++ keyed_row row ∷ []) }

-- a table with a run added
abbrev pub with_run : SpanTable → Run → SpanTable
with_run table run = add_tables table.schema (table ∷ table_of table.schema (run ∷ []) ∷ [])

-- the sum of these runs
pub record IsSumOf (schema : Schema) (runs : List Run) (sum : SummedTable) : Type 0 where
  pub table : sum.table ≡ table_of schema runs
  pub parts : sum.parts ≡ length runs

-- where one is the sum of some runs, the other is that of these and more
abbrev pub TakesRuns : SummedTable → List Run → SummedTable → Type 0
TakesRuns old more new = (schema : Schema) (runs : List Run) → IsSumOf schema runs old → IsSumOf schema (runs ++ more) new

-- where two are sums of some runs each, the third is that of all of these
abbrev pub JoinsRuns : SummedTable → SummedTable → SummedTable → Type 0
JoinsRuns one other both = (schema : Schema) (runs others : List Run) → IsSumOf schema runs one → IsSumOf schema others other → IsSumOf schema (runs ++ others) both

-- the tables of lists of runs, added, are the table of all these runs together
abbrev pub AddingLosesNothing : Type 0
AddingLosesNothing = (schema : Schema) (lists : List (List Run)) → add_tables schema (map (table_of schema) lists) ≡ table_of schema (flat_map (λ list. list) lists)

-- a table is the same for runs in whatever order
abbrev pub OrderIsNothing : Type 0
OrderIsNothing = (schema : Schema) (runs other : List Run) → IsPermutation runs other → table_of schema runs ≡ table_of schema other

-- those at these places of a list
abbrev pub picked : {A : Type 0} → List ℕ → List A → List A
picked places xs = filter_map (slice_get xs) places

-- which columns of a table are taken, by their places, and which of its numbers
pub record Choice : Type 0 where
  pub places : List ℕ
  pub numbers : List Number

-- these numbers of a row, under these values of its key
abbrev pub keyed_by : Choice → Row → Keyed TableKey Sums
keyed_by choice row = record { key = picked choice.places row.key; step = only choice.numbers row.sums }

-- a schema with fewer columns or numbers, or in another order
abbrev pub schema_by : Choice → Schema → Schema
schema_by choice schema = record { of = schema.of; columns = picked choice.places schema.columns; numbers = choice.numbers }

-- a table with these: rows whose keys are then the same are added
abbrev pub chosen_from : Choice → SpanTable → SpanTable
chosen_from choice table = record { schema = schema_by choice table.schema; counts = table.counts; rows = rows_of (map (keyed_by choice) table.rows) }

-- all of these are among those
abbrev pub AreAmong : List Number → List Number → Type 0
AreAmong numbers all = list_all (has_number all) numbers ≡ true

-- a table by fewer columns and numbers is the table by more, with the others dropped
abbrev pub DroppingAdds : Type 0
DroppingAdds = (choice : Choice) (schema : Schema) (runs : List Run) → AreAmong choice.numbers schema.numbers → chosen_from choice (table_of schema runs) ≡ table_of (schema_by choice schema) runs
