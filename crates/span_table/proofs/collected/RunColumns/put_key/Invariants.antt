use Rattle.std.proofs.Common.{◌≡◌, map, take}
use Rattle.span_table.specs.Columns.{value_at}
use Rattle.span_table.proofs.collected.RunColumns.put_key.Given as goal

-- the values of the columns so far
abbrev pub invariant-loop-column : goal.invariant-loop-column
invariant-loop-column l = l.key ≡ map (value_at l.self.run.now l.seen.thread l.seen.span l.seen.parent) (take l.column-index l.column-items)
