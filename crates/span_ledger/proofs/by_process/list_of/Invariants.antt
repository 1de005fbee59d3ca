use Rattle.std.proofs.Common.{◌≡◌}
use Rattle.span_ledger.proofs.by_process.list_of.Given as goal

-- the processes that were passed
abbrev pub invariant-loop-pid : goal.invariant-loop-pid
invariant-loop-pid l = l.processes.items ≡ l.yielded
