use Rattle.std.proofs.Common.{length}
use Rattle.span_parts.proofs.choice.+place_of.Given as goal

-- one column fewer each time
abbrev pub decreases-place_of : goal.decreases-place_of
decreases-place_of l = length l.columns.now
