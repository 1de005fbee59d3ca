use Rattle.std.specs.{Ordering.int_cmp, Prelude.map}
use Rattle.std.proofs.Common.{◌≡◌}
use Rattle.span_ledger.specs.{ascending}
use Rattle.span_ledger.proofs.listed.Listed.ordered_processes.Given as goal

-- the processes that were passed
abbrev pub invariant-loop-pid : goal.invariant-loop-pid
invariant-loop-pid l = l.set.keys ≡ ascending int_cmp (map (λ pid. pid.now) l.yielded)
