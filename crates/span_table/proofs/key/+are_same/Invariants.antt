use Rattle.std.proofs.Common.{length}
use Rattle.span_table.proofs.key.+are_same.Given as goal

-- one value fewer each time
abbrev pub decreases-are_same : goal.decreases-are_same
decreases-are_same l = length l.values.now
