use Rattle.std.specs.Prelude.{flat_map, map, string_bytes}
use Rattle.std.proofs.Common.{◌≡◌, ◌++◌}
use Rattle.span_ledger.specs.Grouped.{rows_in_group}
use Rattle.span_report.specs.Report.{process_lines}
use Rattle.span_report.proofs.text.put_processes.Given as goal

-- the lines of the processes that were passed
abbrev pub invariant-loop-process : goal.invariant-loop-process
invariant-loop-process l = string_bytes l.out ≡ string_bytes l.fn.out ++ flat_map process_lines (map (rows_in_group l.ledger.journal) l.yielded)
