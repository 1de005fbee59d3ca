use Rattle.std.specs.Prelude.{map}
use Rattle.std.proofs.Common.{◌≡◌}
use Rattle.span_ledger.specs.{thread_row}
use Rattle.span_ledger.proofs.track_rows.thread_rows.Given as goal

-- the rows of the threads that were passed
abbrev pub invariant-loop-thread : goal.invariant-loop-thread
invariant-loop-thread l = l.rows.items ≡ map (thread_row l.journal) (map (λ thread. thread.now) l.yielded)
