use Rattle.std.proofs.Common.{length}
use Rattle.span_parts.proofs.rows.+is_key_of.Given as goal

-- one column fewer each time
abbrev pub decreases-is_key_of : goal.decreases-is_key_of
decreases-is_key_of l = length l.columns.now
