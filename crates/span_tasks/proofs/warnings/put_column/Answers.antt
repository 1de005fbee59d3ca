use Rattle.span_tasks.specs.Warnings.{absent_line}
use Rattle.span_tasks.proofs.warnings.put_column.Goals as goal

pub returns : goal.returns
unfolding absent_line
returns c = rw (c.in_ok-name-2.ensures, c.in_ok-name.ensures) at c.writeln.ensures.bytes
