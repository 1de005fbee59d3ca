use Rattle.std.proofs.Common.{length}
use Rattle.span_parts.proofs.guess.+put_named.Given as goal

-- one token fewer each time
abbrev pub decreases-put_named : goal.decreases-put_named
decreases-put_named l = length l.tokens.now
