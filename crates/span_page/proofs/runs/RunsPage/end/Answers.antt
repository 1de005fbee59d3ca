use Rattle.std.proofs.Common.{◌∙◌, Option, sym, subst, string_bytes}
use Rattle.span_page.specs.{rows_of, Runs.{BegunPage, Holds}}
use Rattle.span_page.proofs.RunsSoFar.{page_of_runs-long}
use Rattle.span_page.proofs.runs.RunsPage.end.Goals as goal

-- it was too long before
pub returns-in-None-clause-full : goal.returns-in-None-clause-full
returns-in-None-clause-full c = λ unit labels runs sums holds stands same.
    page_of_runs-long unit labels (string_bytes c.args.table) (rows_of sums) runs (subst (λ (page : Option BegunPage). Holds unit labels runs page) (sym c.self.view_is ∙ c.in-None.is) holds)
