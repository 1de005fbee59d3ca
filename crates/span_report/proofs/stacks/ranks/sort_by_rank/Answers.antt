use Rattle.std.proofs.Common.{rules}
use Rattle.span_ledger.proofs.Sorting.{IsSorted-from_sort_by, sorted-ascending}
use Rattle.span_report.proofs.StackLemmas.RankOrder.{AreSpans-distinct, rank_order-total}
use Rattle.span_report.proofs.stacks.ranks.sort_by_rank.Goals as goal

pub returns : goal.returns
returns c =
    let spans = c.args.spans.now in
    let sorted = c.sort_unstable_by.new.self in
    sorted-ascending rank_order-total spans sorted (AreSpans-distinct spans c.requires) c.sort_unstable_by.ensures.permutation
    (IsSorted-from_sort_by rank_order-total sorted c.sort_unstable_by.ensures.sorted (λ a r f' call. search rules))
