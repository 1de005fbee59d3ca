use Rattle.std.proofs.Common.{◌≡◌, take}
use Rattle.span_tasks.proofs.texts.all_ordered.Given as goal

-- those so far
abbrev pub invariant-loop-table : goal.invariant-loop-table
invariant-loop-table l = l.ordered.items ≡ take l.table-index l.tables
