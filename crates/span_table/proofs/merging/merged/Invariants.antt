use Rattle.std.proofs.Common.{◌≡◌, ◌+◌, ◌++◌, length}
use Rattle.span_table.specs.Merging.{merged}
use Rattle.span_table.proofs.merging.merged.Given as goal

-- the rows so far, and those that are left are merged behind them
abbrev pub invariant-loop-right : goal.invariant-loop-right
invariant-loop-right l = l.all.items ++ merged l.left.items l.right.items ≡ merged l.fn.rows.items l.fn.more.items

abbrev pub decreases-loop-right : goal.decreases-loop-right
decreases-loop-right l = length l.left.items + length l.right.items
