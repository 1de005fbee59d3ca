use Rattle.std.proofs.Common.{◌≡◌, drop, map}
use Rattle.span_closed_spans.specs.{is_covered, span_of}
use Rattle.span_closed_spans.proofs.walk.is_covered.Given as goal

abbrev pub invariant-loop-span : goal.invariant-loop-span
invariant-loop-span l = is_covered (map span_of (drop l.span-index l.spans)) l.u ≡ is_covered (map span_of l.spans) l.u
