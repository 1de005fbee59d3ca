use Rattle.std.proofs.Common.{◌≡◌, length, refl, ap, ◌∙◌, rules}
use Rattle.span_table.specs.{ascending, Tables.{SpanTable, row_cmp}}
use Rattle.span_table.proofs.Mixed.{length-AreRowsOf}
use Rattle.span_table.proofs.table.Table.len.Goals as goal

pub returns : goal.returns
returns c =
    let mixed = c.self.inside.rows.items in
    let count : c.len.result ≡ length mixed = search rules in
    count ∙ length-AreRowsOf (ascending row_cmp mixed) mixed (record { distinct = c.self.invariant; sorted = refl }) ∙ ap (λ (t : SpanTable). length t.rows) c.self.view_is
