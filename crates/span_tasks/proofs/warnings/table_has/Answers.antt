use Rattle.std.proofs.{Common.◌∙◌, lemmas.List.Sorted.list_any-IsPermutation}
use Rattle.span_table.proofs.Mixed.{AreRowsOf-permutation}
use Rattle.span_tasks.specs.Warnings.{has_value}
use Rattle.span_tasks.proofs.warnings.table_has.Goals as goal

pub returns : goal.returns
returns c =
    let rows = c.rows.result.now in
    c.has_column.ensures ∙ list_any-IsPermutation (has_value c.args.place) rows c.args.table.now.rows (AreRowsOf-permutation c.args.table.now.rows rows c.rows.ensures)
