use Rattle.std.proofs.Common.{◌≡◌, ◌++◌, take}
use Rattle.span_stack_sums.specs.Text.{lines_of}
use Rattle.span_stack_sums.proofs.text.put_rows.Given as goal

-- the lines so far
abbrev pub invariant-loop-row : goal.invariant-loop-row
invariant-loop-row l = l.out.items ≡ l.fn.out.items ++ lines_of (take l.row-index l.rows)
