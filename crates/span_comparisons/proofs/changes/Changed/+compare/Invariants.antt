use Rattle.std.proofs.Common.{length}
use Rattle.span_comparisons.proofs.changes.Changed.+compare.Given as goal

-- one number fewer each time
abbrev pub decreases-compare : goal.decreases-compare
decreases-compare l = length l.numbers.now
