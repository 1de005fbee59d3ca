use Rattle.std.specs.Prelude.{flat_map, sum_by}
use Rattle.std.proofs.Common.{◌≡◌, ◌+◌, drop, take}
use Rattle.span_report.specs.Stacks.{Bounds.most_names, Folded.{process_lines, process_names}}
use Rattle.span_report.proofs.stacks.text.folded.Given as goal

-- the lines of the processes so far; the names of the others are to be taken from those that are left
abbrev pub invariant-loop-process : goal.invariant-loop-process
invariant-loop-process l = record {
  text : l.out.items ≡ flat_map (process_lines l.columns l.ledger.journal) (take l.process-index l.process-items);
  names : most_names + sum_by (process_names l.columns l.ledger.journal) (drop l.process-index l.process-items) ≡ l.left + sum_by (process_names l.columns l.ledger.journal) l.process-items;
}
