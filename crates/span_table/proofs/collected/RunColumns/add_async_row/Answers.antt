use Rattle.std.proofs.Common.{◌≡◌, true, refl, ap₂, ◌∙◌}
use Rattle.span_table.specs.{longest_async, Numbers.has_number, Sums.{number_by, only, sums_of_async}, declared.number.Number.{Number, TheVariants.Longest}}
use Rattle.span_table.proofs.{Numbers.only-same, Summing.taken-as}
use Rattle.span_table.proofs.collected.RunColumns.add_async_row.Goals as goal

pub returns : goal.returns
returns c =
    let numbers = c.args.self.now.schema.now.numbers in
    let row = c.args.row.now in
    let known = sums_of_async row (longest_async c.args.self.now.run.now.journal row.key) in
    let sums = c.only.ensures ∙ ap₂ only c.numbers.ensures c.of_async-sums.ensures ∙ only-same numbers (sums_of_async row c.longest_of.result) known same in
    taken-as c.add.result c.in_ok-key.key _ c.only.result _ c.args.groups.now c.add.new.self c.in_ok-key.ensures sums c.add.ensures.takes
  where
    same : (n : Number) → has_number c.args.self.now.schema.now.numbers n ≡ true →
        number_by n (sums_of_async c.args.row.now c.longest_of.result) ≡ number_by n (sums_of_async c.args.row.now (longest_async c.args.self.now.run.now.journal c.args.row.now.key))
    same Longest has = c.longest_of.ensures has
    same n has = refl
