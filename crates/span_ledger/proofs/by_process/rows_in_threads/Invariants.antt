use Rattle.std.specs.Prelude.{map}
use Rattle.std.proofs.Common.{◌≡◌, take}
use Rattle.span_ledger.specs.{rows_in_thread}
use Rattle.span_ledger.proofs.by_process.rows_in_threads.Given as goal

-- the rows of the threads so far
abbrev pub invariant-loop-thread : goal.invariant-loop-thread
invariant-loop-thread l = l.rows.items ≡ map (rows_in_thread l.journal) (take l.thread-index l.threads)
