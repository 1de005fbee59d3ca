use Rattle.std.proofs.Common.{◌++◌, List, sym, ap₂, subst, ◌∙◌}
use Rattle.span_table.proofs.Kept.{rows_with-none}
use Rattle.span_stack_sums.specs.{Row, SumsByKey, keyed_rows, rows_of, rows_with, Kept.IsKept}
use Rattle.span_stack_sums.proofs.KeptRows.{IsKept-rows}
use Rattle.span_stack_sums.proofs.stack_rows.StackRows.join.Goals as goal

pub invariant_of-result : goal.invariant_of-result
invariant_of-result c =
    let all = c.in_ok-merged.field-0.items in
    subst (λ (kept : SumsByKey). IsKept all kept 0) (sym c.none_beside-groups.ensures) (IsKept-rows all c.in_ok-merged.ensures.rise)

pub returns : goal.returns
returns c =
    let mine = c.in_ok-into_rows.field-0.items in
    let its = c.in_ok-into_rows-2.field-0.items in
    ap₂ rows_with c.in_ok-merged.ensures.rows c.none_beside-groups.ensures ∙ rows_with-none (keyed_rows mine ++ keyed_rows its)
    ∙ ap₂ (λ (one other : List Row). rows_of (keyed_rows one ++ keyed_rows other)) c.in_ok-into_rows.ensures.rows c.in_ok-into_rows-2.ensures.rows
