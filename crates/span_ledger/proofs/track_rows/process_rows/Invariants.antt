use Rattle.std.specs.Prelude.{map}
use Rattle.std.proofs.Common.{◌≡◌}
use Rattle.span_ledger.specs.{process_row}
use Rattle.span_ledger.proofs.track_rows.process_rows.Given as goal

-- the rows of the processes that were passed
abbrev pub invariant-loop-pid : goal.invariant-loop-pid
invariant-loop-pid l = l.rows.items ≡ map (process_row l.journal) (map (λ pid. pid.now) l.yielded)
