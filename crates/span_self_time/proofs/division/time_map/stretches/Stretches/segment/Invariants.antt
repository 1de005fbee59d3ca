use Rattle.std.proofs.Common.{◌≡◌, slice_get, map}
use Rattle.span_self_time.specs.{Division.TimeMap.Stretches.{present, segments_in}, declared.segment.OwnedSegment.OwnedSegment}
use Rattle.span_self_time.proofs.division.time_map.stretches.Stretches.segment.Given as goal

abbrev pub invariant-loop-owned : goal.invariant-loop-owned
invariant-loop-owned l = slice_get (map (λ (p : OwnedSegment). p.segment) (present l.owned-iterator)) l.left ≡ slice_get (map (λ (p : OwnedSegment). p.segment) (segments_in l.self)) l.i
