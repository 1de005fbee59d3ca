use Rattle.std.proofs.Common.{◌≡◌, slice_get, option_copied, List, sym, subst}
use Rattle.span_self_time.specs.{Division.{owners_of, SegmentStacks.AreSegmentStacks, TimeMap.IsTimeMap, Ways.IsWay}, declared.segment.Segment.Segment}
use Rattle.span_self_time.proofs.{Lone.AreOwnedSegments-lone, Segments.HasSegmentsWith-owned, TimeMap.Listing.AreOwnedSegments-stretches}
use Rattle.span_self_time.proofs.division.Division.segment.Goals as goal

pub returns-in-Stacked : goal.returns-in-Stacked
returns-in-Stacked c = λ spans closed is.
    let kept = subst (AreSegmentStacks (owners_of spans)) (sym c.deref.ensures) (subst (IsWay (owners_of spans)) c.in-Stacked.is is) in
    HasSegmentsWith-owned (λ (segments : List Segment). option_copied c.segment-in-Stacked.result ≡ slice_get segments c.args.i) spans _ closed kept.segments c.segment-in-Stacked.ensures

pub returns-in-Searched : goal.returns-in-Searched
returns-in-Searched c = λ spans closed is.
    let kept = subst (IsTimeMap (owners_of spans)) (sym c.deref-in-Searched.ensures) (subst (IsWay (owners_of spans)) c.in-Searched.is is) in
    let are = AreOwnedSegments-stretches (owners_of spans) c.deref-in-Searched.result.now.stretches kept.divided kept.whole c.segment-in-Searched.ensures.ordered in
    HasSegmentsWith-owned (λ (segments : List Segment). option_copied c.segment-in-Searched.result ≡ slice_get segments c.args.i) spans _ closed are c.segment-in-Searched.ensures.segment

pub returns-in-Lone : goal.returns-in-Lone
returns-in-Lone c = λ spans closed is.
    let lone = subst (IsWay (owners_of spans)) c.in-Lone.is is in
    HasSegmentsWith-owned (λ (segments : List Segment). option_copied c.segment.result ≡ slice_get segments c.args.i) spans _ closed (AreOwnedSegments-lone _ _ lone) c.segment.ensures
