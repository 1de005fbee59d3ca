use Rattle.std.proofs.Common.{sym, ap, ◌∙◌}
use Rattle.span_table.specs.Merging.{heads_cmp, merged}
use Rattle.span_table.proofs.MergedRows.{merged-less}
use Rattle.span_table.proofs.merging.next_row.Goals as goal

pub returns-in-Less-clause-rows : goal.returns-in-Less-clause-rows
returns-in-Less-clause-rows c =
    let more = c.args.right.now.items in
    let parts = c.pop_front.ensures.items in
    ap (λ rows. merged rows more) parts ∙ merged-less c.pop_front.result c.pop_front.new.self.items more (ap (λ rows. heads_cmp rows more) (sym parts) ∙ sym c.in-Less.ensures)
