use Rattle.std.proofs.Common.{◌≡◌, take}
use Rattle.span_table.proofs.column.copies_of.Given as goal

-- copies of the columns so far
abbrev pub invariant-loop-column : goal.invariant-loop-column
invariant-loop-column l = l.copies.items ≡ take l.column-index l.columns
