use Rattle.std.specs.Prelude.{flat_map}
use Rattle.std.proofs.Common.{List, drop}
use Rattle.span_stack_sums.specs.{Row, Kept.{Exceeds, TakesSums}}
use Rattle.span_stack_sums.proofs.{Taking.of_row}
use Rattle.span_stack_sums.proofs.threads.add_threads.Given as goal

-- what the threads that are left do to the rows, all do to those at the start
abbrev pub invariant-loop-row : goal.invariant-loop-row
invariant-loop-row l = record {
  rows : (newer : List Row) → TakesSums l.rows newer (flat_map (of_row l.columns l.ledger.journal) (drop l.row-index l.row-items)) → TakesSums l.fn.rows newer (flat_map (of_row l.columns l.ledger.journal) l.row-items);
  full : Exceeds l.rows (flat_map (of_row l.columns l.ledger.journal) (drop l.row-index l.row-items)) → Exceeds l.fn.rows (flat_map (of_row l.columns l.ledger.journal) l.row-items);
}
