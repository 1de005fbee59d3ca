use Rattle.std.proofs.{Common.{◌∷◌, [], map, sym, ap, subst, ◌∙◌}, lemmas.{List.map_push, Simd.map-map}}
use Rattle.span_table.specs.{AsyncRow, async_rows, Collected.Takes, Columns.Run, Tables.{keyed_async, with_only}}
use Rattle.span_table.proofs.Summing.{Takes-all, Takes-next}
use Rattle.span_table.proofs.collected.RunColumns.add_async_rows.Goals as goal

pub loop-row-preserved : goal.loop-row-preserved
loop-row-preserved c =
    let make = λ (row : AsyncRow). with_only c.args.self.now.schema.now.numbers (keyed_async c.args.self.now.schema.now.columns c.args.self.now.run.now row) in
    Takes-next (map make) (λ row. make row ∷ []) (map_push make) c.deref-row-items.result.now c.args.groups.now c.loop-row.row-index c.row-item.result c.loop-row.groups c.add_async_row.new.groups
    c.loop-row-test.true c.row-item.is c.loop-row.invariant c.in_ok-add_async_row.ensures

pub returns : goal.returns
returns c =
    let run = c.args.self.now.run.now in
    let numbers = c.args.self.now.schema.now.numbers in
    let of_row = keyed_async c.args.self.now.schema.now.columns run in
    let make = λ (row : AsyncRow). with_only numbers (of_row row) in
    let at = c.loop-row.row-index in
    let rows = c.deref-row-items.ensures.value ∙ c.in_ok-rows.ensures.rows ∙ ap (λ (run : Run). async_rows run.journal) c.run.view_is in
    subst (Takes c.args.groups.now c.loop-row.groups) (ap (map make) rows ∙ sym (map-map (with_only numbers) of_row (async_rows run.journal)))
    (Takes-all (map make) (λ row. make row ∷ []) (map_push make) c.deref-row-items.result.now c.args.groups.now at c.loop-row.groups c.loop-row-test.false c.loop-row.invariant)
