use Rattle.std.proofs.Common.{[], ◌∙◌}
use Rattle.span_ledger.specs.Grouped.{group_of}
use Rattle.span_ledger.proofs.Grouping.{groups_of-thread}
use Rattle.span_ledger.proofs.by_process.add_threads.Goals as goal

pub loop-thread-preserved : goal.loop-thread-preserved
loop-thread-preserved c = λ pids sorted is.
    c.in_ok-add_thread.ensures (group_of c.loop-thread.yielded []) pids sorted (c.loop-thread.invariant pids sorted is)
    ∙ groups_of-thread pids c.loop-thread.yielded [] c.in-Some.thread
