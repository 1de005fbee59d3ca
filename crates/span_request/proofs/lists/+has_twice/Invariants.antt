use Rattle.std.proofs.Common.{length}
use Rattle.span_request.proofs.lists.+has_twice.Given as goal

-- one name fewer each time
abbrev pub decreases-has_twice : goal.decreases-has_twice
decreases-has_twice l = length l.names.now
