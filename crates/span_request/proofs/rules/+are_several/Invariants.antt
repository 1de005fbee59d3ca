use Rattle.std.proofs.Common.{length}
use Rattle.span_request.proofs.rules.+are_several.Given as goal

-- one fewer each time
abbrev pub decreases-are_several : goal.decreases-are_several
decreases-are_several l = length l.given.now
