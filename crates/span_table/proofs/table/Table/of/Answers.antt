use Rattle.std.specs.Prelude.{option_copied, IfOk}
use Rattle.std.proofs.Common.{◌≡◌, [], ap, subst, ◌∙◌}
use Rattle.span_table.specs.{Adding.with_run, Columns.run_of, Tables.SpanTable}
use Rattle.span_table.proofs.Kept.{with_run-runs}
use Rattle.span_table.proofs.table.Table.of.Goals as goal

pub returns : goal.returns
returns c =
    let run = run_of c.args.ledger.now.journal c.args.files c.args.unread (option_copied c.args.file) in
    let is = c.in_ok-with_run.ensures.added ∙ ap (λ t. with_run t run) c.new.ensures.table ∙ with_run-runs c.args.schema [] run in
    subst (λ (t : SpanTable). IfOk c.into_table.result (λ table. table ≡ t)) is c.into_table.ensures
