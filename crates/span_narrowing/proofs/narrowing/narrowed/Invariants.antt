use Rattle.std.proofs.Common.{◌≡◌}
use Rattle.span_narrowing.specs.Narrowed.{shown_with}
use Rattle.span_narrowing.proofs.Shown.{first_sums}
use Rattle.span_narrowing.proofs.narrowing.narrowed.Given as goal

-- the rows so far
abbrev pub invariant-loop-row : goal.invariant-loop-row
invariant-loop-row l = l.sum.table ≡ shown_with l.narrowing l.fn.table (first_sums l.narrowing l.fn.table l.rows l.row-index)
