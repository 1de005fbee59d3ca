use Rattle.std.proofs.Common.{length}
use Rattle.span_parts.proofs.heads.+are_distinct.Given as goal

-- one name fewer each time
abbrev pub decreases-are_distinct : goal.decreases-are_distinct
decreases-are_distinct l = length l.names.now
