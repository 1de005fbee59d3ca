use Rattle.std.specs.Prelude.{option_copied}
use Rattle.span_table.specs.Columns.{run_of}
use Rattle.span_table.proofs.Kept.{TakesRuns-run}
use Rattle.span_table.proofs.table_sum.TableSum.add_run.Goals as goal

pub returns-clause-runs : goal.returns-clause-runs
returns-clause-runs c =
    TakesRuns-run c.args.self c.in_ok-with_run.field-0 (run_of c.args.ledger.now.journal c.args.files c.args.unread (option_copied c.args.file)) c.in_ok-with_run.ensures.added c.in_ok-with_run.ensures.parts
