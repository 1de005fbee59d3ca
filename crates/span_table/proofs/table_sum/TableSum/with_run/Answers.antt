use Rattle.std.proofs.Common.{◌+◌, ◌<◌, ◌^◌, [], ◌∷◌, ap, ◌∙◌, arith}
use Rattle.span_table.specs.{Adding.{SummedTable, with_run}, Tables.{counts_together, schema_sums}, declared.counts.TableCounts.TableCounts}
use Rattle.span_table.proofs.Kept.{IsSummed-taken, counts-run, rows_with-run}
use Rattle.span_table.proofs.table_sum.TableSum.with_run.Goals as goal

pub invariant_of-result : goal.invariant_of-result
invariant_of-result c =
    let own = c.self.inside in
    let new = c.add_to.new.groups in
    let same = ap (λ (sum : SummedTable). sum.parts) c.self.view_is in
    let few : own.parts + 1 < 2 ^ 32 = omega (arith, same, c.requires) in
    IsSummed-taken (own.parts + 1) own.rows.items own.groups new _ few c.self.invariant.rise c.self.invariant.kept_rise c.in_ok-add_to.ensures

pub returns-clause-added : goal.returns-clause-added
returns-clause-added c =
    let own = c.self.inside in
    let new = c.add_to.new.groups in
    let run = c.args.run.now in
    let takes = c.in_ok-add_to.ensures in
    let counts = c.in_ok-counts.ensures ∙ ap (λ (more : TableCounts). counts_together (own.counts ∷ more ∷ [])) c.of.ensures ∙ counts-run own.counts run in
    let rows = rows_with-run own.rows.items own.groups new (schema_sums own.schema run) c.self.invariant.kept_rise takes in
    (λ i. record { schema = own.schema; counts = counts i; rows = rows i })
    ∙ ap (λ (sum : SummedTable). with_run sum.table run) c.self.view_is
