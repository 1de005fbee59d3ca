use Rattle.std.proofs.{Common.{sym, ◌∙◌}, lemmas.Bool.or_parts}
use Rattle.span_table.proofs.{ByName.row_sums-only, Kept.Takes-alike}
use Rattle.span_table.proofs.collected.RunColumns.add_closed.Goals as goal

pub returns : goal.returns
returns c =
    let none = or_parts _ _ (sym c.asks_each_span.ensures ∙ c.if-asks_each_span.false) in
    Takes-alike c.add_rows.result c.args.groups.now c.add_rows.new.groups _ _ (row_sums-only c.args.self.now.schema.now.columns c.args.self.now.run.now none.0 c.args.self.now.schema.now.numbers none.1) c.add_rows.ensures
