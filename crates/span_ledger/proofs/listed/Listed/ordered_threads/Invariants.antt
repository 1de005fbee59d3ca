use Rattle.std.specs.Prelude.{map}
use Rattle.std.proofs.Common.{◌≡◌}
use Rattle.span_ledger.specs.{thread_cmp, ascending}
use Rattle.span_ledger.proofs.listed.Listed.ordered_threads.Given as goal

-- the threads that were passed
abbrev pub invariant-loop-thread : goal.invariant-loop-thread
invariant-loop-thread l = l.set.keys ≡ ascending thread_cmp (map (λ thread. thread.now) l.yielded)
