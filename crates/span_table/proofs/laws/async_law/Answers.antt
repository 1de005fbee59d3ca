use Rattle.span_table.proofs.AsyncRows.{rows-add_up, rows-are_async_rows}
use Rattle.span_table.proofs.laws.async_law.Goals as goal

pub returns-clause-rows : goal.returns-clause-rows
returns-clause-rows c = rows-are_async_rows

pub returns-clause-totals : goal.returns-clause-totals
returns-clause-totals c = rows-add_up
