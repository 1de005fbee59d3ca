use Rattle.std.proofs.Common.{◌≡◌, drop, map}
use Rattle.span_closed_spans.specs.{is_outranked, span_of}
use Rattle.span_closed_spans.proofs.walk.is_outranked.Given as goal

abbrev pub invariant-loop-other : goal.invariant-loop-other
invariant-loop-other l = is_outranked (map span_of (drop l.other-index l.spans)) (span_of l.span) l.u ≡ is_outranked (map span_of l.spans) (span_of l.span) l.u
