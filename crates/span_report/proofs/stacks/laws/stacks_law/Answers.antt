use Rattle.span_report.proofs.StackLemmas.SameStacks.{stacks-alike}
use Rattle.span_report.proofs.stacks.laws.stacks_law.Goals as goal

pub returns : goal.returns
returns c = stacks-alike
