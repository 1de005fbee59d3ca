use Rattle.span_self_time.specs.Division.TimeMap.Stretches.{present, segments_in}
use Rattle.span_self_time.proofs.Lengths.{IsLeft}
use Rattle.span_self_time.proofs.division.time_map.stretches.Stretches.add_lengths.Given as goal

abbrev pub invariant-loop-owned : goal.invariant-loop-owned
invariant-loop-owned l = IsLeft l.fn.times l.times (segments_in l.self) (present l.owned-iterator)
