use Rattle.std.proofs.Common.{◌≡◌, ◌++◌, string_bytes, take, flat_map}
use Rattle.span_table_text.specs.Rows.{then_value}
use Rattle.span_table_text.proofs.rows.put_values.Given as goal

-- those so far
abbrev pub invariant-loop-value : goal.invariant-loop-value
invariant-loop-value l = string_bytes l.out ≡ string_bytes l.fn.out ++ flat_map then_value (take l.value-index l.values)
