use Rattle.std.specs.{List.IsDistinct, Ordering.eq_by_cmp}
use Rattle.std.proofs.Common.{sym, ap, subst, ◌∙◌}
use Rattle.span_table.specs.{ascending, Tables.row_cmp}
use Rattle.span_table_text.proofs.Ranked.{AreRowsOf-shown}
use Rattle.span_table_text.proofs.shown.Shown.ordered_rows.Goals as goal

pub sorted-requires : goal.sorted-requires
sorted-requires c =
    subst (IsDistinct (eq_by_cmp row_cmp)) (sym c.in_ok-rows.ensures) (AreRowsOf-shown c.args.self.now c.args.table.now.rows c.rows.result.now c.rows.ensures).distinct

pub returns : goal.returns
returns c =
    c.sorted.ensures ∙ ap (ascending row_cmp) c.in_ok-rows.ensures ∙ sym (AreRowsOf-shown c.args.self.now c.args.table.now.rows c.rows.result.now c.rows.ensures).sorted
