use Rattle.std.proofs.Common.{◌≡◌, map, take}
use Rattle.span_table.specs.Columns.{async_value_at}
use Rattle.span_table.proofs.collected.RunColumns.async_key_of.Given as goal

-- the values of the columns so far
abbrev pub invariant-loop-column : goal.invariant-loop-column
invariant-loop-column l = l.values.items ≡ map (async_value_at l.self.run.now l.key) (take l.column-index l.columns)
