use Rattle.span_options.proofs.OneFault.{faults-single}
use Rattle.span_options.proofs.laws.fault_law.Goals as goal

pub returns : goal.returns
returns c = faults-single
