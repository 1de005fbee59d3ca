use Rattle.std.proofs.Common.{length}
use Rattle.span_parts.proofs.guess.+put_columns.Given as goal

-- one token fewer each time
abbrev pub decreases-put_columns : goal.decreases-put_columns
decreases-put_columns l = length l.tokens.now
