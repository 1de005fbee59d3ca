use Rattle.span_table.proofs.AddedTables.{add_tables-table_of, table_of-chosen, table_of-moved}
use Rattle.span_table.proofs.laws.adding_law.Goals as goal

pub returns-clause-together : goal.returns-clause-together
returns-clause-together c = add_tables-table_of

pub returns-clause-order : goal.returns-clause-order
returns-clause-order c = table_of-moved

pub returns-clause-fewer : goal.returns-clause-fewer
returns-clause-fewer c = table_of-chosen
