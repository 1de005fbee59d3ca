use Rattle.std.proofs.{Common.{◌≡◌, length, List, sym, ◌∙◌, subst}, lemmas.List.length-map}
use Rattle.span_self_time.specs.{Division.{owners_of, SegmentStacks.AreSegmentStacks, TimeMap.IsTimeMap, Ways.IsWay}, declared.segment.{OwnedSegment.OwnedSegment, Segment.Segment}}
use Rattle.span_self_time.proofs.{Lone.AreOwnedSegments-lone, Segments.HasSegmentsWith-owned, TimeMap.Listing.AreOwnedSegments-stretches}
use Rattle.span_self_time.proofs.division.Division.segment_count.Goals as goal

pub returns-in-Stacked : goal.returns-in-Stacked
returns-in-Stacked c = λ spans closed is.
    let kept = subst (AreSegmentStacks (owners_of spans)) (sym c.deref.ensures) (subst (IsWay (owners_of spans)) c.in-Stacked.is is) in
    HasSegmentsWith-owned (λ (segments : List Segment). c.segment_count-in-Stacked.result ≡ length segments) spans _ closed kept.segments (c.segment_count-in-Stacked.ensures ∙ sym (length-map _ (λ (p : OwnedSegment). p.segment)))

pub returns-in-Searched : goal.returns-in-Searched
returns-in-Searched c = λ spans closed is.
    let kept = subst (IsTimeMap (owners_of spans)) (sym c.deref-in-Searched.ensures) (subst (IsWay (owners_of spans)) c.in-Searched.is is) in
    let are = AreOwnedSegments-stretches (owners_of spans) c.deref-in-Searched.result.now.stretches kept.divided kept.whole c.segment_count-in-Searched.ensures.ordered in
    HasSegmentsWith-owned (λ (segments : List Segment). c.segment_count-in-Searched.result ≡ length segments) spans _ closed are (c.segment_count-in-Searched.ensures.count ∙ sym (length-map _ (λ (p : OwnedSegment). p.segment)))

pub returns-in-Lone : goal.returns-in-Lone
returns-in-Lone c = λ spans closed is.
    let lone = subst (IsWay (owners_of spans)) c.in-Lone.is is in
    HasSegmentsWith-owned (λ (segments : List Segment). c.segment_count.result ≡ length segments) spans _ closed (AreOwnedSegments-lone _ _ lone) (c.segment_count.ensures ∙ sym (length-map _ (λ (p : OwnedSegment). p.segment)))
