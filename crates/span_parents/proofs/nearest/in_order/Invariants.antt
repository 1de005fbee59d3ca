use Rattle.std.proofs.Common.{◌≡◌, take}
use Rattle.span_parents.specs.{Holding.spans_of, Nearest.placed_from}
use Rattle.span_parents.proofs.nearest.in_order.Given as goal

-- the spans so far
abbrev pub invariant-loop-place : goal.invariant-loop-place
invariant-loop-place l = l.ordered.items ≡ placed_from l.among 0 (spans_of (take l.place l.spans))
