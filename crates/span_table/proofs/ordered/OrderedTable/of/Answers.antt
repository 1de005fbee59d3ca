use Rattle.std.proofs.Common.{sym, subst}
use Rattle.span_keyed_tracks.proofs.Sorted.{ascending-sorted}
use Rattle.span_table.specs.Tables.{RowsRise}
use Rattle.span_table.proofs.Mixed.{row_cmp-total}
use Rattle.span_table.proofs.ordered.OrderedTable.of.Goals as goal

pub invariant_of-result : goal.invariant_of-result
invariant_of-result c = subst RowsRise (sym c.sorted-rows.ensures) (ascending-sorted row_cmp-total c.in_ok-refs_of.field-0.items)
