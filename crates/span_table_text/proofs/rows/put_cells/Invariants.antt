use Rattle.std.proofs.Common.{◌≡◌, ◌++◌, ◌∷◌, string_bytes, take, flat_map}
use Rattle.span_table_text.specs.Rows.{Cell, in_column}
use Rattle.span_table_text.proofs.rows.put_cells.Given as goal

-- those so far, with a blank before each
abbrev pub invariant-loop-cell : goal.invariant-loop-cell
invariant-loop-cell l = string_bytes l.out ≡ string_bytes l.initial.out ++ flat_map (λ (cell : Cell). 32 ∷ in_column cell) (take l.cell-index l.later)
