use Rattle.std.proofs.Common.{List, [], sym, ap₂, subst}
use Rattle.span_table.proofs.Rows.{RowsRise-rows_of}
use Rattle.span_stack_sums.specs.{Row, SumsByKey, rows_with, Kept.IsKept}
use Rattle.span_stack_sums.proofs.KeptRows.{IsKept-rows}
use Rattle.span_stack_sums.proofs.stack_rows.StackRows.new.Goals as goal

pub invariant_of-result : goal.invariant_of-result
invariant_of-result c =
    subst (λ (rows : List Row). IsKept rows c.new-2.result 0) (sym c.new.ensures.items)
    (subst (λ (kept : SumsByKey). IsKept [] kept 0) (sym c.new-2.ensures) (IsKept-rows [] (RowsRise-rows_of [])))

pub returns : goal.returns
returns c = ap₂ rows_with c.new.ensures.items c.new-2.ensures
