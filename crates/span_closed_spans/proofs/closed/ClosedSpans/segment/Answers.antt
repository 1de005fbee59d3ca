use Rattle.std.proofs.Common.{map, slice_get, option_copied, IfSome, sym, ap, ◌∙◌, subst, List}
use Rattle.span_closed_spans.specs.{Segment, Span, span_of, AreSegments, HasEnds}
use Rattle.span_closed_spans.proofs.{SameSegments.AreSegments-same, SegmentEnds.{HasEnds-segments, IfSome-slice_get}}
use Rattle.span_closed_spans.proofs.closed.ClosedSpans.segment.Goals as goal

pub returns-clause-segment : goal.returns-clause-segment
returns-clause-segment c = λ segments are.
    let own = c.segment.ensures _ c.self.invariant.0 c.self.invariant.2 in
    let same = AreSegments-same _ _ segments own.are (subst (λ (spans : List (Span _)). AreSegments spans segments) (sym c.self.view_is) are) in
    own.holds ∙ ap (λ (l : List Segment). slice_get l c.args.i) same

pub returns-clause-ends : goal.returns-clause-ends
returns-clause-ends c =
    let spans = map span_of c.self.inside.list.items in
    let own = c.segment.ensures _ c.self.invariant.0 c.self.invariant.2 in
    let ends = IfSome-slice_get (HasEnds spans) _ c.args.i (HasEnds-segments spans _ own.are) in
    subst (λ (l : List (Span _)). IfSome (option_copied c.segment.result) (HasEnds l)) c.self.view_is (subst (λ o. IfSome o (HasEnds spans)) (sym own.holds) ends)
