-- The text of a ranking.
use Rattle.std.specs.Prelude.{ℕ, Bool, ◌++◌, take, flat_map, length, map}
use Rattle.span_table_text.specs.{Unit, Bytes, head_lines, Number, Row, Schema, SpanTable, Lines.{runs_line, shown_line}, Ranks.ranked, Rows.{number_title, row_line, titles_line, value_cell}, Shown.{Wanted, shown_rows}}

-- the names of the columns
abbrev pub column_line : Schema → Bytes
column_line schema = titles_line (map number_title schema.numbers) schema.columns

-- the line of a row
abbrev pub ranked_line : Schema → Row → Bytes
ranked_line schema row = row_line (map (value_cell row.sums) schema.numbers) row.key

-- the head of the report, how many runs there are where that is said, how many rows are shown, the names of the columns, and then a line for each of the first rows
abbrev pub ranking_of : Unit → ℕ → Number → Wanted → Bool → SpanTable → Bytes
ranking_of unit most by wanted says_runs table = let shown = shown_rows wanted table.rows in
    head_lines unit table.counts.entries ++ (runs_line says_runs table.counts ++ (shown_line wanted (length shown) (length table.rows) ++ (column_line table.schema ++ flat_map (ranked_line table.schema) (take most (ranked by shown)))))
