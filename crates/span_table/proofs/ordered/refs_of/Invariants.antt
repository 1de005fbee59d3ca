use Rattle.std.proofs.Common.{◌≡◌, take}
use Rattle.span_table.proofs.ordered.refs_of.Given as goal

-- those so far
abbrev pub invariant-loop-row : goal.invariant-loop-row
invariant-loop-row l = l.refs.items ≡ take l.row-index l.rows
