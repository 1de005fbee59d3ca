use Rattle.std.proofs.Common.{◌≡◌, map, take}
use Rattle.span_table_text.specs.Rows.{number_title}
use Rattle.span_table_text.proofs.rows.number_titles.Given as goal

-- those so far
abbrev pub invariant-loop-number : goal.invariant-loop-number
invariant-loop-number l = l.cells.items ≡ map number_title (take l.number-index l.numbers)
