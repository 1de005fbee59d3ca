use Rattle.std.specs.Prelude.{map}
use Rattle.std.proofs.Common.{◌≡◌}
use Rattle.span_ledger.specs.Grouped.{rows_in_group}
use Rattle.span_ledger.proofs.by_process.rows_by_process.Given as goal

-- the rows of the processes that were passed
abbrev pub invariant-loop-process : goal.invariant-loop-process
invariant-loop-process l = l.processes.items ≡ map (rows_in_group l.journal) l.yielded
