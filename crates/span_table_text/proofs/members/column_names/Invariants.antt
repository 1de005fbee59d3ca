use Rattle.std.proofs.Common.{◌≡◌, map, take}
use Rattle.span_table_text.specs.{column_name}
use Rattle.span_table_text.proofs.members.column_names.Given as goal

-- the names of the columns so far
abbrev pub invariant-loop-column : goal.invariant-loop-column
invariant-loop-column l = l.names.items ≡ map column_name (take l.column-index l.columns)
