use Rattle.std.proofs.Common.{List, [], ◌∷◌, ◌++◌, ap₂, ◌∙◌}
use Rattle.span_tasks.specs.{SpanTable, Warning, warning_lines, Warnings.absent_lines}
use Rattle.span_tasks.proofs.place.Place.made_of_page.Goals as goal

-- its files and its table are warned of
pub returns-in-Ok-page-clause-warnings : goal.returns-in-Ok-page-clause-warnings
returns-in-Ok-page-clause-warnings g c =
    let refused = rw c.deref.ensures.value at c.in-Ok-warnings_of.ensures in
    let table = c.in-Ok.ensures in
    (rw c.deref-2.ensures.value at c.in-Ok-warned_of_page.ensures)
    ∙ ap₂ (λ (files : List Warning) (own : SpanTable). warning_lines files ++ absent_lines c.args.view.now.options.columns.items (own ∷ [])) refused table
