use Rattle.std.proofs.Common.{length}
use Rattle.span_request.proofs.lists.+is_among.Given as goal

-- one name fewer each time
abbrev pub decreases-is_among : goal.decreases-is_among
decreases-is_among l = length l.names.now
