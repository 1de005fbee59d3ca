use Rattle.std.proofs.Common.{◌≡◌, ◌+◌, take}
use Rattle.span_stack_sums.specs.{most_names, Text.labels_in}
use Rattle.span_stack_sums.proofs.text.check_labels.Given as goal

-- those that are left, and those so far
abbrev pub invariant-loop-row : goal.invariant-loop-row
invariant-loop-row l = l.left + labels_in (take l.row-index l.rows) ≡ most_names
