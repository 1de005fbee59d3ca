use Rattle.std.proofs.lemmas.Result.{IfOk-weaker}
use Rattle.std.proofs.Common.{◌≡◌, ap, ◌∙◌}
use Rattle.span_tasks.specs.{Schema, SpanTable, narrowed, run_of_files, table_of_run}
use Rattle.span_tasks.proofs.place.Place.page_table.Goals as goal

-- the table of the run is narrowed
pub returns : goal.returns
returns g c =
    let narrowing = c.args.options.now.narrowing in
    let ends = c.args.collected.now.end.ends.items in
    let run = run_of_files c.args.files.now ends c.args.collected.now.ledger.journal in
    let all = c.in_ok-all.ensures ∙ ap (λ (schema : Schema). table_of_run schema run) c.in_ok-schema.ensures in
    IfOk-weaker c.narrowed.result (λ (table : SpanTable). table ≡ narrowed narrowing c.in_ok-all.all) _ (λ table is. is ∙ ap (narrowed narrowing) all) c.narrowed.ensures
