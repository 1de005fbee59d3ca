use Rattle.span_tasks.specs.Summed.{summed_of}
use Rattle.span_tasks.proofs.page_sum.PageSumGathering.joined.Goals as goal

-- both halves are
pub returns-clause-runs : goal.returns-clause-runs
returns-clause-runs c = λ by runs others is are. record {
  table = c.in_ok-joined.ensures.runs (summed_of by.options) runs others is.table are.table;
  stacks = c.in_ok-joined-2.ensures.runs by.labels runs others is.stacks are.stacks;
}
