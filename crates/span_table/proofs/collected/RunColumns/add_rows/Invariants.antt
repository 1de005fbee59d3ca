use Rattle.std.proofs.Common.{map, take}
use Rattle.span_table.specs.{SpanRow, Collected.{Takes, keyed_span_row}, Tables.with_only}
use Rattle.span_table.proofs.collected.RunColumns.add_rows.Given as goal

-- the rows so far are taken
abbrev pub invariant-loop-row : goal.invariant-loop-row
invariant-loop-row l = Takes l.fn.groups l.groups (map (λ (row : SpanRow). with_only l.self.schema.now.numbers (keyed_span_row l.self.schema.now.columns l.self.run.now row)) (take l.row-index l.row-items))
