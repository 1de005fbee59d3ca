use Rattle.std.proofs.Common.{rules, sym, subst}
use Rattle.span_keyed_tracks.proofs.{Sorted.ascending-sorted, Sorting.{IsSorted-from_sort_by, sorted-ascending}}
use Rattle.span_table.specs.Tables.{RowsRise}
use Rattle.span_table.proofs.Mixed.{row_cmp-total}
use Rattle.span_table.proofs.groups.in_order.Goals as goal

pub returns : goal.returns
returns c =
    let rows = c.args.rows.items in
    let sorted = c.sort_unstable_by.new.self.items in
    let placed = sorted-ascending row_cmp-total rows sorted c.requires c.sort_unstable_by.ensures.permutation (IsSorted-from_sort_by row_cmp-total sorted c.sort_unstable_by.ensures.sorted (λ a r f' call. search rules)) in
    record { rows = placed; rise = subst RowsRise (sym placed) (ascending-sorted row_cmp-total rows) }
