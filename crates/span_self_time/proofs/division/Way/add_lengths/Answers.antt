use Rattle.std.proofs.Common.{sym, subst}
use Rattle.span_self_time.specs.Division.{SegmentStacks.AreSegmentStacks, TimeMap.IsTimeMap, Ways.IsWay}
use Rattle.span_self_time.proofs.{Lengths.CanGain-none, TimeMap.Listing.AreOwnedSegments-stretches}
use Rattle.span_self_time.proofs.division.Way.add_lengths.Goals as goal

pub add_lengths-requires-in-Stacked : goal.add_lengths-requires-in-Stacked
add_lengths-requires-in-Stacked c =
    let owners = c.requires.division.owners in
    let kept = subst (AreSegmentStacks owners) (sym c.deref.ensures) (subst (IsWay owners) c.in-Stacked.is c.requires.division.holds) in
    CanGain-none c.args.times.now owners _ c.requires.none kept.segments

pub add_lengths-requires-in-Searched : goal.add_lengths-requires-in-Searched
add_lengths-requires-in-Searched c = λ ordered.
    let owners = c.requires.division.owners in
    let kept = subst (IsTimeMap owners) (sym c.deref-in-Searched.ensures) (subst (IsWay owners) c.in-Searched.is c.requires.division.holds) in
    CanGain-none c.args.times.now owners _ c.requires.none (AreOwnedSegments-stretches owners c.deref-in-Searched.result.now.stretches kept.divided kept.whole ordered)

pub returns-in-Searched : goal.returns-in-Searched
returns-in-Searched c = λ owners is.
    let kept = subst (IsTimeMap owners) (sym c.deref-in-Searched.ensures) (subst (IsWay owners) c.in-Searched.is is) in
    record { segments = _; are = AreOwnedSegments-stretches owners c.deref-in-Searched.result.now.stretches kept.divided kept.whole c.add_lengths-in-Searched.ensures.ordered; holds = c.add_lengths-in-Searched.ensures.gains }
