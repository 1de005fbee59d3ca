use Rattle.std.proofs.Common.{◌≡◌, map, take}
use Rattle.span_self_time.specs.{Division.Lengths.time_at, declared.span.ClosedSpan.ClosedSpan}
use Rattle.span_self_time.proofs.division.Division.self_times.Given as goal

abbrev pub invariant-loop-span : goal.invariant-loop-span
invariant-loop-span l = l.times.items ≡ map (λ (s : ClosedSpan). time_at l.lengths s.at) (take l.span-index l.spans)
