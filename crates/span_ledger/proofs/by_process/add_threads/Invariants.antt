use Rattle.std.specs.{List.Sorted.IsStrictlySortedBy, Ordering.int_cmp}
use Rattle.std.proofs.Common.{◌≡◌, ℤ, List, []}
use Rattle.span_ledger.specs.Grouped.{groups_of}
use Rattle.span_ledger.proofs.by_process.add_threads.Given as goal

-- the threads that were passed are grouped
abbrev pub invariant-loop-thread : goal.invariant-loop-thread
invariant-loop-thread l = (pids : List ℤ) → IsStrictlySortedBy int_cmp pids → l.fn.groups.entries ≡ groups_of pids [] [] → l.groups.entries ≡ groups_of pids l.yielded []
