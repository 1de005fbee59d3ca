use Rattle.std.proofs.Common.{length}
use Rattle.span_table.proofs.number.+are_same.Given as goal

-- one number fewer each time
abbrev pub decreases-are_same : goal.decreases-are_same
decreases-are_same l = length l.numbers.now
