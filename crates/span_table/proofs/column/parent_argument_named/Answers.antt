use Rattle.std.proofs.Common.{sym}
use Rattle.span_table.proofs.column.parent_argument_named.Goals as goal

pub returns-in_default-clause-found : goal.returns-in_default-clause-found
returns-in_default-clause-found c = λ key some e. absurd (c.in_default.ensures.cases key (sym e))
