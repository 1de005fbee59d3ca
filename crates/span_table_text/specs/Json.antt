-- The rows of a table for machines: JSON Lines.
use Rattle.std.specs.{List.list_all, Prelude.{ℕ, Bool, ◌&&◌, ◌++◌, flat_map, length}}
use Rattle.span_table_text.specs.{Bytes, Unit, TableCounts, Row, Schema, SpanTable, counts_fit, fit, Shown.{Wanted, shown_rows}, Tokens.{head_tokens, row_tokens, token_line}}

-- the line of a row
unfoldable pub json_line : Schema → Row → Bytes
json_line schema row = token_line (row_tokens schema row)

-- the first line
unfoldable pub json_head : Schema → Unit → ℕ → TableCounts → Bytes
json_head schema unit rows counts = token_line (head_tokens schema unit rows counts)

-- the first line, and then one for each row
abbrev pub text_of : Unit → SpanTable → Bytes
text_of unit table = json_head table.schema unit (length table.rows) table.counts ++ flat_map (json_line table.schema) table.rows

-- the table without the rows that aren't shown
abbrev pub shown_table : Wanted → SpanTable → SpanTable
shown_table wanted table = record { schema = table.schema; counts = table.counts; rows = shown_rows wanted table.rows }

abbrev pub json_of : Unit → Wanted → SpanTable → Bytes
json_of unit wanted table = text_of unit (shown_table wanted table)

-- the counts and all sums have 64 bits
abbrev pub numbers_fit : SpanTable → Bool
numbers_fit table = counts_fit table.counts && list_all (λ (row : Row). fit row.sums) table.rows

abbrev pub json_fits : Wanted → SpanTable → Bool
json_fits wanted table = numbers_fit (shown_table wanted table)
