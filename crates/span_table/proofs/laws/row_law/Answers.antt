use Rattle.span_table.proofs.OwnRows.{rows-are_span_rows}
use Rattle.span_table.proofs.laws.row_law.Goals as goal

pub returns : goal.returns
returns c = rows-are_span_rows
