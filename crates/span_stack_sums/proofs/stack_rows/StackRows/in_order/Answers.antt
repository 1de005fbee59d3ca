use Rattle.std.proofs.Common.{◌++◌, map, sym, ap₂, subst, ◌∙◌}
use Rattle.span_table.proofs.Kept.{rows_with-none}
use Rattle.span_stack_sums.specs.{SumsByKey, keyed_rows, row_of, rows_with, Kept.IsKept}
use Rattle.span_stack_sums.proofs.KeptRows.{IsKept-rows}
use Rattle.span_stack_sums.proofs.stack_rows.StackRows.in_order.Goals as goal

pub invariant_of-result : goal.invariant_of-result
invariant_of-result c =
    let all = c.in_ok-into_rows.field-0.items in
    subst (λ (kept : SumsByKey). IsKept all kept 0) (sym c.none_beside-groups.ensures) (IsKept-rows all c.in_ok-into_rows.ensures.rise)

pub returns : goal.returns
returns c =
    let own = c.self.inside in
    ap₂ rows_with (c.in_ok-into_rows.ensures.rows ∙ sym c.self.view_is) c.none_beside-groups.ensures ∙ rows_with-none (keyed_rows own.rows.items ++ keyed_rows (map row_of own.groups)) ∙ c.self.view_is
