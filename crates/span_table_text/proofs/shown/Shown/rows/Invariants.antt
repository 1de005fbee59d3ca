use Rattle.std.proofs.Common.{◌≡◌, take}
use Rattle.span_table_text.specs.Shown.{shown_rows}
use Rattle.span_table_text.proofs.shown.Shown.rows.Given as goal

-- those that are shown so far
abbrev pub invariant-loop-row : goal.invariant-loop-row
invariant-loop-row l = l.found.items ≡ shown_rows l.self (take l.row-index l.rows)
