-- By what the rows of a table are distinguished: a value for each column.
use Rattle.std.specs.{Cmp.Lexicographic.slice_cmp, Option.option_cmp, Prelude.List, declared.cmp.Ordering.Ordering}
use Rattle.span_table.specs.{value_cmp, Columns.Value}

-- one value for each column
abbrev pub TableKey : Type 0
TableKey = List Value

-- from the left; a column without a value comes first
abbrev pub key_cmp : TableKey → TableKey → Ordering
key_cmp = slice_cmp (option_cmp value_cmp)
