use Rattle.std.proofs.Common.{map, take}
use Rattle.span_table.specs.{AsyncRow, Collected.Takes, Tables.{keyed_async, with_only}}
use Rattle.span_table.proofs.collected.RunColumns.add_async_rows.Given as goal

-- the rows so far are taken
abbrev pub invariant-loop-row : goal.invariant-loop-row
invariant-loop-row l = Takes l.fn.groups l.groups (map (λ (row : AsyncRow). with_only l.self.schema.now.numbers (keyed_async l.self.schema.now.columns l.self.run.now row)) (take l.row-index l.row-items))
