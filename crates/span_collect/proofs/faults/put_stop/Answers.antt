use Rattle.std.proofs.Common.{append_assoc}
use Rattle.span_collect.specs.FaultLines.{stop_line}
use Rattle.span_collect.proofs.faults.put_stop.Goals as goal

pub returns : goal.returns
unfolding stop_line
returns c = rw append_assoc (rw (c.in_ok-name.ensures, c.in_ok-fault.ensures) at c.writeln.ensures.bytes)
