use Rattle.span_table.proofs.Busy.{rows-busy}
use Rattle.span_table.proofs.laws.busy_law.Goals as goal

pub returns : goal.returns
returns c = rows-busy
