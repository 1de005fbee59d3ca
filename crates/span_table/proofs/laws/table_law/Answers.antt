use Rattle.span_table.proofs.SameTables.{table_of-alike}
use Rattle.span_table.proofs.laws.table_law.Goals as goal

pub returns : goal.returns
returns c = table_of-alike
