use Rattle.std.proofs.Common.{◌≡◌, map, take}
use Rattle.span_table_text.specs.Rows.{value_cell}
use Rattle.span_table_text.proofs.rows.value_cells.Given as goal

-- those so far
abbrev pub invariant-loop-number : goal.invariant-loop-number
invariant-loop-number l = l.cells.items ≡ map (value_cell l.sums) (take l.number-index l.numbers)
