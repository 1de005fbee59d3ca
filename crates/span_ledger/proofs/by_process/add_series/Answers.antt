use Rattle.std.proofs.Common.{◌∷◌, [], ◌++◌, ap, ◌∙◌}
use Rattle.span_ledger.specs.Grouped.{group_of, groups_of}
use Rattle.span_ledger.proofs.Grouping.{groups_of-series}
use Rattle.span_ledger.proofs.by_process.add_series.Goals as goal

pub loop-row-preserved : goal.loop-row-preserved
loop-row-preserved c = λ pids threads sorted is.
    c.in_ok-add_row.ensures (group_of threads c.loop-row.yielded) pids sorted (c.loop-row.invariant pids threads sorted is)
    ∙ groups_of-series pids threads c.loop-row.yielded c.in_ok-to_row.field-0
    ∙ ap (λ row. groups_of pids threads (c.loop-row.yielded ++ row ∷ [])) c.in_ok-to_row.ensures
