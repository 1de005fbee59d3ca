-- What is warned of behind a text of tables: files of which events were refused, and columns that no span has.
use Rattle.std.specs.{List.list_any, Prelude.{ℕ, ◌+◌, nat_lt, ◌&&◌, not, if◌then◌else◌, Bool, true, false, List, [], ◌∷◌, ◌++◌, length, slice_get, codes, Option, Some}}
use Rattle.span_request.specs.declared.tasks.Items.TheVariants.{Printed}
use Rattle.span_tasks.specs.{Bytes, Warning, Items, Column, SpanTable, column_name, json_text_of, warning_lines}
use Rattle.span_table.specs.{Columns.Value, declared.{column.Column.TheVariants.{Argument, ParentArgument}, table.Row.Row}}

abbrev pub is_value : Option Value → Bool
is_value (Some (Some value)) = true
is_value value = false

-- the row has a value at this place
abbrev pub has_value : ℕ → Row → Bool
has_value place row = is_value (slice_get row.key place)

-- a row of the table has one
abbrev pub has_column : ℕ → SpanTable → Bool
has_column place table = list_any (has_value place) table.rows

abbrev pub has_rows : SpanTable → Bool
has_rows table = nat_lt 0 (length table.rows)

-- the line of a column that no span has
unfoldable pub absent_line : Column → Bytes
absent_line column = codes "tracebook: warning: no span has " ++ (json_text_of (column_name column) ++ 10 ∷ [])

-- the column is an argument, of a span or of its parent
abbrev pub is_some_argument : Column → Bool
is_some_argument (Argument key) = true
is_some_argument (ParentArgument key) = true
is_some_argument column = false

-- the column is an argument, and no row of the tables has a value at its place
abbrev pub is_absent : ℕ → Column → List SpanTable → Bool
is_absent place column tables = is_some_argument column && not (list_any (has_column place) tables)

-- the lines of such columns, the first of which has this place
abbrev pub absent_from : ℕ → List Column → List SpanTable → Bytes
absent_from place [] tables = []
absent_from place (column ∷ columns) tables = (if is_absent place column tables then absent_line column else []) ++ absent_from (place + 1) columns tables

-- those of tables by these columns, unless none has a row
abbrev pub absent_lines : List Column → List SpanTable → Bytes
absent_lines columns tables = if list_any has_rows tables then absent_from 0 columns tables else []

-- what is warned of files, and of tables by these columns; of printed ones nothing is known but what they print
abbrev pub warned_of : Items → List Column → List SpanTable → List Warning → Bytes
warned_of Printed columns tables warnings = []
warned_of items columns tables warnings = warning_lines warnings ++ absent_lines columns tables
