use Rattle.std.proofs.Common.{◌∙◌, None, Option, sym, subst}
use Rattle.span_page.specs.Runs.{BegunPage, ShownRun, TakesRun}
use Rattle.span_page.proofs.RunsSoFar.{TakesRun-none}
use Rattle.span_page.proofs.runs.RunsPage.with_run.Goals as goal

-- it was too long before
pub returns-in_default : goal.returns-in_default
returns-in_default c =
    let run : ShownRun = record { files = c.args.files.now; ends = c.args.ends.now; journal = c.args.ledger.now.journal } in
    subst (λ (page : Option BegunPage). TakesRun c.args.unit c.args.labels.now run page None) (sym c.in_default.is ∙ c.self.view_is) (TakesRun-none c.args.unit c.args.labels.now run)
