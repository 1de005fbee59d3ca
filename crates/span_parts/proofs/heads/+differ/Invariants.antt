use Rattle.std.proofs.Common.{length}
use Rattle.span_parts.proofs.heads.+differ.Given as goal

-- one number fewer each time
abbrev pub decreases-differ : goal.decreases-differ
decreases-differ l = length l.numbers.now
