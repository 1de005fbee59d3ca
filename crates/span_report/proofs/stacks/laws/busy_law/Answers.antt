use Rattle.span_report.proofs.StackLemmas.Labelling.{labelled-busy}
use Rattle.span_report.proofs.stacks.laws.busy_law.Goals as goal

pub returns : goal.returns
returns c = labelled-busy
