use Rattle.std.proofs.Common.{append_assoc}
use Rattle.span_faults.specs.Warnings.{warning_line}
use Rattle.span_faults.proofs.warnings.put_warning.Goals as goal

pub returns : goal.returns
unfolding warning_line
returns c = simp append_assoc (rw (c.in_ok-name.ensures, c.in_ok-fault.ensures, c.from.ensures, c.from-2.ensures) at c.writeln.ensures.bytes)
