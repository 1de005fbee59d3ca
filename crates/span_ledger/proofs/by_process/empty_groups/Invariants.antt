use Rattle.std.specs.Ordering.{int_cmp}
use Rattle.std.proofs.Common.{◌≡◌, [], map}
use Rattle.span_ledger.specs.{ascending, Grouped.groups_of}
use Rattle.span_ledger.proofs.by_process.empty_groups.Given as goal

-- the processes that were passed have a group
abbrev pub invariant-loop-pid : goal.invariant-loop-pid
invariant-loop-pid l = l.groups.entries ≡ groups_of (ascending int_cmp (map (λ pid. pid.now) l.yielded)) [] []
