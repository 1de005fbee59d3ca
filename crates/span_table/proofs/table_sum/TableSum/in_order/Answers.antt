use Rattle.std.proofs.Common.{◌++◌, map, sym, ap₂, subst, ◌∙◌}
use Rattle.span_table.specs.{Adding.keyed_rows, Kept.{IsSummed, rows_with}, Tables.{SumsByKey, row_of}}
use Rattle.span_table.proofs.Kept.{IsSummed-rows, rows_with-none}
use Rattle.span_table.proofs.table_sum.TableSum.in_order.Goals as goal

pub invariant_of-result : goal.invariant_of-result
invariant_of-result c =
    let own = c.self.inside in
    let all = c.in_ok-rows.rows.items in
    let is = c.self.invariant in
    subst (λ (kept : SumsByKey). IsSummed own.parts all kept) (sym c.none_beside-groups.ensures)
    (IsSummed-rows own.parts all is.few c.in_ok-rows.ensures.rise)

pub returns : goal.returns
returns c =
    let own = c.self.inside in
    let rows = ap₂ rows_with c.in_ok-rows.ensures.rows c.none_beside-groups.ensures ∙ rows_with-none (keyed_rows own.rows.items ++ keyed_rows (map row_of own.groups)) in
    (λ i. record { parts = own.parts; table = record { schema = own.schema; counts = own.counts; rows = rows i } })
    ∙ c.self.view_is
