use Rattle.std.proofs.Common.{length}
use Rattle.span_parts.proofs.choice.+are_same_columns.Given as goal

-- one column fewer each time
abbrev pub decreases-are_same_columns : goal.decreases-are_same_columns
decreases-are_same_columns l = length l.columns.now
