use Rattle.std.proofs.Common.{◌≡◌, ◌+◌, length}
use Rattle.span_self_time.specs.Division.TimeMap.Stretches.{present, segments_in}
use Rattle.span_self_time.proofs.division.time_map.stretches.Stretches.segment_count.Given as goal

abbrev pub invariant-loop-owned : goal.invariant-loop-owned
invariant-loop-owned l = l.count + length (present l.owned-iterator) ≡ length (segments_in l.self)
