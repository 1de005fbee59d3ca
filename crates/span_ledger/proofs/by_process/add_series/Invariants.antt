use Rattle.std.specs.{List.Sorted.IsStrictlySortedBy, Ordering.int_cmp}
use Rattle.std.proofs.Common.{◌≡◌, ℤ, List, []}
use Rattle.span_ledger.specs.{Thread, Grouped.groups_of}
use Rattle.span_ledger.proofs.by_process.add_series.Given as goal

-- the rows that were passed are grouped
abbrev pub invariant-loop-row : goal.invariant-loop-row
invariant-loop-row l = (pids : List ℤ) (threads : List Thread) → IsStrictlySortedBy int_cmp pids → l.fn.groups.entries ≡ groups_of pids threads [] → l.groups.entries ≡ groups_of pids threads l.yielded
