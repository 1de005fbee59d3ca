use Rattle.std.proofs.Common.{length}
use Rattle.span_parts.proofs.guess.+put_values.Given as goal

-- one name fewer each time
abbrev pub decreases-put_values : goal.decreases-put_values
decreases-put_values l = length l.names.now
