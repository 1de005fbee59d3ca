use Rattle.std.specs.Prelude.{flat_map}
use Rattle.std.proofs.Common.{map, take}
use Rattle.span_table.specs.{ThreadRow, thread_of_row, Collected.Takes, Tables.{thread_sums, with_only}}
use Rattle.span_table.proofs.collected.RunColumns.add_spans.Given as goal

-- the spans of the threads so far are taken
abbrev pub invariant-loop-row : goal.invariant-loop-row
invariant-loop-row l = Takes l.fn.groups l.groups (flat_map (λ (row : ThreadRow). map (with_only l.self.schema.now.numbers) (thread_sums l.self.schema.now.columns l.self.run.now (thread_of_row row))) (take l.row-index l.row-items))
