-- Rows that are added one by one, and the part that they make.
use Rattle.std.specs.Prelude.{flat_map, sum_by}
use Rattle.std.proofs.{Common.{◌≡◌, ℕ, ◌+◌, List, [], ◌∷◌, ◌++◌, map, refl, sym, ap, ap₂, ◌∙◌, append_assoc, append-nil, arith}, lemmas.{Grind.flat_map-append, List.{map-append, Sums.sum_by-append}}}
use Rattle.span_table.proofs.{AddedTables.{counts-same, rows-behind, rows-then}, Kept.counts_together-one, OwnRows.rows_of-own}
use Rattle.span_parts.specs.{TableCounts, Row, Choice, add_tables, chosen_from, keyed_by, keyed_rows, with_counts, with_row, KeyedSums, RowsRise, Schema, SpanTable, counts_together, rows_of, Rows.{row_at, with_rows}}

-- a table whose rows are those of some sums
abbrev table_with : SpanTable → KeyedSums → SpanTable
table_with table sums = record { schema = table.schema; counts = table.counts; rows = rows_of sums }

-- rows added one by one are those of all
with_rows-of : (choice : Choice) (rows : List Row) (table : SpanTable) (sums : KeyedSums) → with_rows choice rows (table_with table sums) ≡ table_with table (sums ++ map (keyed_by choice) rows)
with_rows-of choice [] table sums = ap (table_with table) (sym (append-nil sums))
with_rows-of choice (row ∷ rows) table sums =
    ap (with_rows choice rows) (λ i. record { schema = table.schema; counts = table.counts; rows = rows-then sums (keyed_by choice row ∷ []) i })
    ∙ with_rows-of choice rows table (sums ++ keyed_by choice row ∷ [])
    ∙ ap (table_with table) (append_assoc sums (keyed_by choice row ∷ []) (map (keyed_by choice) rows))

-- rows of sums and of the rows of more are those of all
rows-with : (sums more : KeyedSums) → rows_of (sums ++ more) ≡ rows_of (sums ++ (keyed_rows (rows_of more) ++ []))
rows-with sums more = sym (rows-behind sums more) ∙ ap (λ l. rows_of (sums ++ l)) (sym (append-nil (keyed_rows (rows_of more))))

-- the counts and the rows of a part added are the part added
pub with_rows-part : (choice : Choice) (old part : SpanTable) → RowsRise old.rows →
    with_rows choice part.rows (with_counts old part.counts) ≡ add_tables old.schema (old ∷ chosen_from choice part ∷ [])
with_rows-part choice old part rise =
    ap (λ l. with_rows choice part.rows (record { schema = old.schema; counts = counts_together (old.counts ∷ part.counts ∷ []); rows = l })) (sym (rows_of-own old.rows rise))
    ∙ with_rows-of choice part.rows (with_counts old part.counts) (keyed_rows old.rows)
    ∙ (λ i. record { schema = old.schema; counts = counts_together (old.counts ∷ part.counts ∷ []); rows = rows-with (keyed_rows old.rows) (map (keyed_by choice) part.rows) i })

-- one row more
pub with_rows-push : (choice : Choice) (rows : List Row) (row : Row) (table : SpanTable) → with_rows choice (rows ++ row ∷ []) table ≡ with_row (with_rows choice rows table) (row_at choice row)
with_rows-push choice [] row table = refl
with_rows-push choice (first ∷ rows) row table = with_rows-push choice rows row (with_row table (row_at choice first))

-- two sums added are the sum of the tables of both
pub add_tables-both : (schema : Schema) (tables more : List SpanTable) → add_tables schema (add_tables schema tables ∷ add_tables schema more ∷ []) ≡ add_tables schema (tables ++ more)
add_tables-both schema tables more = λ i. record { schema = schema; counts = all_counts i; rows = rows i }
  where
    counts_in : SpanTable → TableCounts
    counts_in t = t.counts

    sums_in : SpanTable → KeyedSums
    sums_in t = keyed_rows t.rows

    first : TableCounts
    first = counts_together (map counts_in tables)

    second : TableCounts
    second = counts_together (map counts_in more)

    all_counts : counts_together (first ∷ second ∷ []) ≡ counts_together (map counts_in (tables ++ more))
    all_counts = counts-same (counts_together (first ∷ second ∷ [])) (counts_together (map counts_in (tables ++ more))) (λ f adds.
        adds (first ∷ second ∷ []) ∙ two f ∙ ap₂ (λ m n. m + n) (adds (map counts_in tables)) (adds (map counts_in more))
        ∙ sym (adds (map counts_in (tables ++ more)) ∙ ap (sum_by f) (map-append counts_in tables more) ∙ sum_by-append f (map counts_in tables) (map counts_in more)))
      where
        two : (f : TableCounts → ℕ) → sum_by f (first ∷ second ∷ []) ≡ f first + f second
        two f = omega arith

    rows : rows_of (keyed_rows (rows_of (flat_map sums_in tables)) ++ (keyed_rows (rows_of (flat_map sums_in more)) ++ [])) ≡ rows_of (flat_map sums_in (tables ++ more))
    rows = rows-then (flat_map sums_in tables) (keyed_rows (rows_of (flat_map sums_in more)) ++ []) ∙ sym (rows-with (flat_map sums_in tables) (flat_map sums_in more))
        ∙ ap rows_of (sym (flat_map-append sums_in tables more))

-- a table added to a sum is one more of those that it has
pub add_tables-more : (schema : Schema) (tables : List SpanTable) (table : SpanTable) → add_tables schema (add_tables schema tables ∷ table ∷ []) ≡ add_tables schema (tables ++ table ∷ [])
add_tables-more schema tables table =
    (λ i. record {
      schema = schema;
      counts = counts_together (counts_together (map (λ (t : SpanTable). t.counts) tables) ∷ sym (counts_together-one table.counts) i ∷ []);
      rows = rows-with (keyed_rows (rows_of (flat_map (λ (t : SpanTable). keyed_rows t.rows) tables))) (keyed_rows table.rows ++ []) i;
    })
    ∙ add_tables-both schema tables (table ∷ [])
