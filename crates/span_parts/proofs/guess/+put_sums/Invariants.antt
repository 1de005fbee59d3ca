use Rattle.std.proofs.Common.{length}
use Rattle.span_parts.proofs.guess.+put_sums.Given as goal

-- one number fewer each time
abbrev pub decreases-put_sums : goal.decreases-put_sums
decreases-put_sums l = length l.numbers.now
