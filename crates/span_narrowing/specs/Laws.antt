-- The facts that hold of every table that is narrowed.
use Rattle.std.specs.{List.Sorted.IsPermutation, Prelude.{◌≡◌, true, List, All, flat_map, map}}
use Rattle.span_narrowing.specs.{RowsRise, Run, Schema, SpanTable, add_tables, table_of, Narrowed.{is_plain, narrowed, summed_by, summed_schema}, declared.narrowing.Narrowing.Narrowing}

-- without conditions, and where nothing is merged, a table stays as it is
abbrev pub PlainChangesNothing : Type 0
PlainChangesNothing = (narrowing : Narrowing) (table : SpanTable) → is_plain narrowing ≡ true → RowsRise table.rows → narrowed narrowing table ≡ table

-- the narrowed table of runs, of this schema
abbrev pub narrowed_of : Narrowing → Schema → List Run → SpanTable
narrowed_of narrowing schema runs = narrowed narrowing (table_of (summed_schema schema narrowing) runs)

-- tables that are narrowed and then added are what they are if they are added first
abbrev pub NarrowingAdds : Type 0
NarrowingAdds = (narrowing : Narrowing) (schema : Schema) (tables : List SpanTable) → All (λ table. table.schema.columns ≡ summed_by schema.columns narrowing) tables →
    add_tables schema (map (narrowed narrowing) tables) ≡ narrowed narrowing (add_tables (summed_schema schema narrowing) tables)

-- the narrowed tables of lists of runs, added, are that of all these runs together
abbrev pub NarrowingLosesNothing : Type 0
NarrowingLosesNothing = (narrowing : Narrowing) (schema : Schema) (lists : List (List Run)) →
    add_tables schema (map (narrowed_of narrowing schema) lists) ≡ narrowed_of narrowing schema (flat_map (λ list. list) lists)

-- a narrowed table is the same for runs in whatever order
abbrev pub NarrowingHasNoOrder : Type 0
NarrowingHasNoOrder = (narrowing : Narrowing) (schema : Schema) (runs other : List Run) → IsPermutation runs other → narrowed_of narrowing schema runs ≡ narrowed_of narrowing schema other
