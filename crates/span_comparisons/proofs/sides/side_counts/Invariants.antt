use Rattle.std.proofs.Common.{◌≡◌, take}
use Rattle.span_comparisons.specs.Repeats.{side_counts}
use Rattle.span_comparisons.proofs.sides.side_counts.Given as goal

-- the counts so far
abbrev pub invariant-loop-table : goal.invariant-loop-table
invariant-loop-table l = l.counts ≡ side_counts (take l.table-index l.tables)
