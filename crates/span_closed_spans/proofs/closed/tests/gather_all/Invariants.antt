use Rattle.std.proofs.Common.{map}
use Rattle.span_closed_spans.specs.{span_of, CanJoin}
use Rattle.span_closed_spans.proofs.closed.tests.gather_all.Given as goal

-- those so far can be added to the others
abbrev pub invariant-loop-span : goal.invariant-loop-span
invariant-loop-span g l = CanJoin l.spans (map span_of l.gathered.items)
