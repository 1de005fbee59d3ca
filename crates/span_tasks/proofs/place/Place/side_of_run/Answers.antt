use Rattle.std.proofs.Common.{[], ◌∷◌, ap, ◌∙◌}
use Rattle.span_tasks.specs.{SpanTable}
use Rattle.span_tasks.proofs.place.Place.side_of_run.Goals as goal

-- the table is that of the run
pub returns-clause-tables : goal.returns-clause-tables
returns-clause-tables g c = c.in_ok-only.ensures ∙ ap (λ (table : SpanTable). table ∷ []) (rw (c.deref.ensures.value, c.in_ok-schema.ensures) at c.in_ok-table.ensures)
