use Rattle.std.proofs.Common.{rules}
use Rattle.span_keyed_tracks.proofs.Sorting.{IsSorted-from_sort_by, sorted-ascending}
use Rattle.span_table.proofs.Mixed.{row_cmp-total}
use Rattle.span_table.proofs.ordered.sorted.Goals as goal

pub returns : goal.returns
returns c =
    let sorted = c.sort_unstable_by.new.self.items in
    sorted-ascending row_cmp-total c.args.rows.items sorted c.requires c.sort_unstable_by.ensures.permutation (IsSorted-from_sort_by row_cmp-total sorted c.sort_unstable_by.ensures.sorted (λ a r f' call. search rules))
