use Rattle.span_report.proofs.StackLemmas.Labelling.{labelled-self}
use Rattle.span_report.proofs.stacks.laws.self_law.Goals as goal

pub returns : goal.returns
returns c = labelled-self
