use Rattle.std.specs.List.{count_by}
use Rattle.std.proofs.Common.{length, ◌≤◌, ◌*◌, ◌-◌, arith, sym, ap, ◌∙◌, subst, List}
use Rattle.span_closed_spans.specs.{Span, lasts, AreSegments}
use Rattle.span_closed_spans.proofs.{SameSegments.AreSegments-same, SegmentEnds.length-segments}
use Rattle.span_closed_spans.proofs.closed.ClosedSpans.segment_count.Goals as goal

pub returns-clause-count : goal.returns-clause-count
returns-clause-count c = λ segments are.
    let own = c.segment_count.ensures _ c.self.invariant.0 c.self.invariant.2 in
    own.holds ∙ ap length (AreSegments-same _ _ segments own.are (subst (λ (spans : List (Span _)). AreSegments spans segments) (sym c.self.view_is) are))

pub returns-clause-bound : goal.returns-clause-bound
returns-clause-bound c =
    let own = c.segment_count.ensures _ c.self.invariant.0 c.self.invariant.2 in
    subst (λ (spans : List (Span _)). c.segment_count.result ≤ 2 * count_by lasts spans - 1) c.self.view_is (omega (arith, length-segments _ _ own.are, own.holds))
