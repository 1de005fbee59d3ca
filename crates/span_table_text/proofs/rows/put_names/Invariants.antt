use Rattle.std.proofs.Common.{◌≡◌, ◌++◌, string_bytes, take, flat_map}
use Rattle.span_table_text.specs.Rows.{then_title}
use Rattle.span_table_text.proofs.rows.put_names.Given as goal

-- those so far
abbrev pub invariant-loop-column : goal.invariant-loop-column
invariant-loop-column l = string_bytes l.out ≡ string_bytes l.fn.out ++ flat_map then_title (take l.column-index l.columns)
