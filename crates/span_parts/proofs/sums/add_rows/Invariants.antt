use denote.Shadow.{shadow}
use denote.Text.{Utf8}
use Rattle.std.proofs.Common.{◌+◌, ◌≤◌, length}
use Rattle.span_parts.specs.Rows.{AreAdded}
use Rattle.span_parts.proofs.sums.add_rows.Given as goal

-- the rows so far are added, of which each has a byte
abbrev pub invariant-loop-line : goal.invariant-loop-line
invariant-loop-line l = shadow (Utf8 l.rest) × AreAdded l.schema l.choice l.fn.text l.rest l.done l.last l.fn.sum.table l.sum.table × (l.done + length l.rest ≤ length l.fn.text)

abbrev pub decreases-loop-line : goal.decreases-loop-line
decreases-loop-line l = length l.rest
