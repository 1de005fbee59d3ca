use Rattle.std.specs.Prelude.{flat_map, sum_by}
use Rattle.std.proofs.Common.{◌≡◌, ◌++◌, ◌+◌, drop, take}
use Rattle.span_report.specs.Stacks.Folded.{thread_lines, thread_names}
use Rattle.span_report.proofs.stacks.text.put_process.Given as goal

-- the lines of the threads so far; the names of the others are to be taken from those that are left
abbrev pub invariant-loop-thread : goal.invariant-loop-thread
invariant-loop-thread l = record {
  text : l.out.items ≡ l.fn.out.items ++ flat_map (thread_lines l.columns l.ledger.journal l.process.row) (take l.thread-index l.thread-items);
  names : l.fn.left + sum_by (thread_names l.columns l.ledger.journal) (drop l.thread-index l.thread-items) ≡ l.left + sum_by (thread_names l.columns l.ledger.journal) l.thread-items;
}
