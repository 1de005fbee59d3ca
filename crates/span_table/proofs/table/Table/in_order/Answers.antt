use Rattle.std.proofs.Common.{sym, ◌∙◌}
use Rattle.span_table.proofs.Mixed.{AreRowsOf-rise, IsDistinct-rise}
use Rattle.span_table.proofs.table.Table.in_order.Goals as goal

pub invariant_of-result : goal.invariant_of-result
invariant_of-result c = IsDistinct-rise c.in_order-rows.result.items c.in_order-rows.ensures.rise

pub returns : goal.returns
returns c =
    let own = c.self.inside in
    let rows = c.in_order-rows.result.items in
    let same = sym (AreRowsOf-rise rows c.in_order-rows.ensures.rise).sorted ∙ c.in_order-rows.ensures.rows in
    (λ i. record { schema = own.schema; counts = own.counts; rows = same i }) ∙ c.self.view_is
