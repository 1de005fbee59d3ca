use Rattle.std.proofs.Common.{rules, ◌≡◌, ap₂, ◌∙◌}
use Rattle.span_table.specs.{Collected.keyed_span_row, Sums.only}
use Rattle.span_table.proofs.Summing.{taken-as}
use Rattle.span_table.proofs.collected.RunColumns.add_row.Goals as goal

pub returns : goal.returns
returns c =
    let key : c.in_ok-key.key ≡ (keyed_span_row c.args.self.now.schema.now.columns c.args.self.now.run.now c.args.row.now).key = search rules in
    taken-as c.add.result c.in_ok-key.key _ c.only.result _ c.args.groups.now c.add.new.self key (c.only.ensures ∙ ap₂ only c.numbers.ensures c.of_row.ensures) c.add.ensures.takes
