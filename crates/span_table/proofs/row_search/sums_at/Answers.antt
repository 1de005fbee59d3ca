use Rattle.std.specs.{Option.option_map, Prelude.unwrap_or}
use Rattle.std.proofs.Common.{[], sym, ap, ◌∙◌}
use Rattle.span_table.specs.{Tables.sums_together, declared.table.Row.Row}
use Rattle.span_table.proofs.Searched.{sums_at-found}
use Rattle.span_table.proofs.row_search.sums_at.Goals as goal

pub returns-in-Some : goal.returns-in-Some
returns-in-Some c = ap (λ found. unwrap_or (option_map (λ (row : Row). row.sums) found) (sums_together [])) c.in-Some.ensures ∙ sym (sums_at-found c.args.key.now c.args.rows.now c.requires)

pub returns-in-None : goal.returns-in-None
returns-in-None c = c.of_none.ensures ∙ ap (λ found. unwrap_or (option_map (λ (row : Row). row.sums) found) (sums_together [])) c.in-None.ensures ∙ sym (sums_at-found c.args.key.now c.args.rows.now c.requires)
