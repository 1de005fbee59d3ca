use Rattle.span_stack_sums.proofs.StackSums.{IsStackSum-none}
use Rattle.span_runs.proofs.gathering.StackSumGathering.of_none.Goals as goal

pub returns : goal.returns
returns c = IsStackSum-none c.args._columns.now.items c.new.result c.new.ensures
