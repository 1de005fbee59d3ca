use Rattle.std.proofs.Common.{[], ◌∷◌, ap, ◌∙◌}
use Rattle.span_table.specs.Adding.{SummedTable, keyed_row, with_row}
use Rattle.span_table.proofs.Kept.{IsSummed-taken, rows_with-taken}
use Rattle.span_table.proofs.table_sum.TableSum.add_row.Goals as goal

pub invariant_of-self-2 : goal.invariant_of-self-2
invariant_of-self-2 c =
    let own = c.self.invariant in
    IsSummed-taken c.self.inside.parts c.self.inside.rows.items c.self.inside.groups c.add_copy.new.self (keyed_row c.args.row.now ∷ []) own.few own.rise own.kept_rise c.in_ok-add_copy.ensures.takes

pub returns-clause-added : goal.returns-clause-added
returns-clause-added c =
    let own = c.self.inside in
    let row = c.args.row.now in
    let rows = rows_with-taken own.rows.items own.groups c.add_copy.new.self (keyed_row row ∷ []) c.self.invariant.kept_rise c.in_ok-add_copy.ensures.takes in
    (λ i. record { schema = own.schema; counts = own.counts; rows = rows i })
    ∙ ap (λ (sum : SummedTable). with_row sum.table row) c.self.view_is
