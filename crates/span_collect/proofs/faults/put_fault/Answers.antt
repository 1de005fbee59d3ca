use Rattle.span_collect.specs.FaultLines.{fault_line}
use Rattle.span_collect.proofs.faults.put_fault.Goals as goal

pub returns : goal.returns
unfolding fault_line
returns c = rw (c.in_ok-name.ensures, c.in_ok-fault.ensures) at c.writeln.ensures.bytes
